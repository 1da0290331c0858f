-- What compile appends stands for what compiling means. Assumes nothing.
use Prim.Native.Nat.{ℕ, zero, suc, ◌≤◌, ◌<◌}
use mathlib.Core.Path.{◌≡◌, refl, sym, ap, ap₂, subst, ◌∙◌}
use mathlib.Core.Bool.{Bool, true, false}
use mathlib.Core.List.{List, [], ◌∷◌, ◌++◌, append-nil}
use mathlib.Core.Option.{Option, some, none}
use native.Mathlib.Omega.{arith}
use lib.ListN.{get_or}
use lib.Dec.{eqb}
use borrow.Author.Tests.{ne_eqb}
use Rattle.text.specs.Choice.{pick}
use Rattle.layout.specs.Layout.{NONE}
use Rattle.schema.specs.Shape.{Note, Pair, Own, nameless, detects, named, Object, Shape, plain, any_of, all_of, array, object, ref}
use Rattle.schema.specs.Look.{Words, own_words, slice, optional, detecting, sort_names, sort_object, sort_shape, raw, look, bases}
use Rattle.merge.specs.Merge.{Gathered, start, gather, note_of, derive, merge, naming}
use Rattle.compilation.specs.Compile.{Result, ok, Room, objects_cons, objects_of, looks, add_array, each, each_pair, optionally, merge_from, eagerly, compile_shape, compile_at}
use Rattle.grouping.specs.Record.{row_at, note_in, array_of, object_of, count}
use Rattle.grouping.specs.Tree.{Trees, View, map_list, flat_list, map_option, map_pair, map_names, whole, read_object, read_shape, open_all, open_any, view_body, view, Every, nil, one, EveryPair, nil_pair, one_pair, Perhaps, absent, present, PerhapsEvery, absents, presents, NamesIn, in_none, in_named, ObjectIn, Children, in_any, in_all, in_array, in_object}
use Rattle.grouping.specs.Meant.{bind, each_m, each_pair_m, option_m, one_part, one_name, self_view, shape_of_view, closed, names_from, additional_from, object_from, merge_m, eagerly_m, meant_shape, meant_at, meant_of}
use Rattle.grouping.proofs.Rowed.{raw_row}
use Rattle.grouping.proofs.Reading.{object_same, view_is}
use Rattle.grouping.proofs.Shapes.{every_less, pairs_less, option_less, object_less, children_less}
use Rattle.grouping.proofs.Growing.{Extends, extends_self, extends_more, Sound, Added, count_grows, row_kept, then_elim, ok_same, pairs-later, option_later}
use Rattle.grouping.proofs.Frame.{sort_children, look-kept, view-kept, view_of, ordered}
use Rattle.grouping.proofs.Adding.{any_law, all_law, array_law, row_object, row_object_lem, object_law, object_words}
use Rattle.grouping.proofs.Joining.{Joined, j_none, j_one, j_many, MergeAdded, merged_law}
use Rattle.grouping.proofs.Natural.{nat_merge, Tidy, AllTidy, none_tidy, one_tidy, GatheredIn, gather_in, start_in, put_all_in, join_in, join_filled}
use Rattle.grouping.proofs.Rows.{Reads, r_plain, r_any, r_all, r_array, r_object, r_ref, reads, note_steady, required_steady, Plain, tidy}

map-map : {A B C : Type 0} (f : B → C) (g : A → B) (xs : List A) → map_list (λ x. f (g x)) xs ≡ map_list f (map_list g xs)
unfolding map_list
map-map f g [] = refl
map-map f g (x ∷ xs) = ap (λ (y : List _). f (g x) ∷ y) (map-map f g xs)

flat_map : {A B C : Type 0} (f : B → List C) (g : A → B) (xs : List A) → flat_list (λ x. f (g x)) xs ≡ flat_list f (map_list g xs)
unfolding map_list flat_list
flat_map f g [] = refl
flat_map f g (x ∷ xs) = ap (λ (y : List _). f (g x) ++ y) (flat_map f g xs)

pairs-map : {A B C : Type 0} (f : B → C) (g : A → B) (xs : List (Pair A)) → map_list (map_pair (λ x. f (g x))) xs ≡ map_list (map_pair f) (map_list (map_pair g) xs)
unfolding map_list
pairs-map f g [] = refl
pairs-map f g (x ∷ xs) = ap (λ (y : List (Pair _)). map_pair (λ x. f (g x)) x ∷ y) (pairs-map f g xs)

word_less : {s n : ℕ} → s ≤ n → (a : ℕ) (b : Bool) → PerhapsEvery (λ x. x < s) (pick b none (some (a ∷ []))) → Perhaps (λ x. x < n) (pick b none (some a))
word_less le a true q = absent
word_less le a false (presents (one p ps)) = present {x = a} (omega arith)

names_less : {s n : ℕ} → s ≤ n → (a : ℕ) (b : Bool) → NamesIn (λ x. x < s) (pick b nameless (named (a ∷ []))) → Perhaps (λ x. x < n) (pick b none (some a))
names_less le a true q = absent
names_less le a false (in_named (one p ps)) = present {x = a} (omega arith)

naming_in : {P : ℕ → Type 0} {x : Option (List ℕ)} → PerhapsEvery P x → NamesIn P (naming x)
naming_in absents = in_none
naming_in (presents q) = in_named q

plain-later : {t u : Words} → Sound t → Extends t u → {xs : List ℕ} → Every (λ x. x < count t) xs → Every (Plain t) xs → Every (Plain u) xs
plain-later z e nil nil = nil
plain-later {t} {u} z e (one {x = x} p ps) (one q qs) = one (ap detecting (z.steady x p u e) ∙ q) (plain-later z e ps qs)

plains_later : {t u : Words} → Sound t → Extends t u → {x : Option (List ℕ)} → PerhapsEvery (λ x. x < count t) x → PerhapsEvery (Plain t) x → PerhapsEvery (Plain u) x
plains_later z e absents absents = absents
plains_later z e (presents p) (presents q) = presents (plain-later z e p q)

part_word : (a : ℕ) (b : Bool) → one_part (pick b none (some (a ∷ []))) ≡ pick b none (some a)
part_word a true = refl
part_word a false = refl

name_word : (f : ℕ → Bool) (a : ℕ) (b : Bool) → one_name (sort_names f (pick b nameless (named (a ∷ [])))) ≡ pick b none (some a)
unfolding sort_names
name_word f a true = refl
name_word f a false = at (f a)
  where
    at : (c : Bool) → one_name (pick c (detects a) (named (a ∷ []))) ≡ some a
    at true = refl
    at false = refl

closed_word : (b : Bool) → eqb (pick b 1 0) 1 ≡ b
closed_word true = refl
closed_word false = refl

module _ {N : Type 0} (B : Trees N) where
  abbrev pub Vw : Words → ℕ → View N
  Vw t = view B (look t)

  -- a list of views is a list of records read
  any_view : (v : ℕ → View N) (note : Option Note) (ys : List ℕ) → view_body B v (any_of note ys) ≡ view_body B (self_view B) (any_of note (map_list v ys))
  unfolding view_body read_shape open_all open_any
  any_view v none ys = λ i. record { shape = any_of none (map-map (whole B) v ys i); alls = B.build (any_of none (map-map (whole B) v ys i)) ∷ []; anys = flat_map (λ (x : View N). x.anys) v ys i }
  any_view v (some note) ys = λ i. record { shape = any_of (some note) (map-map (whole B) v ys i); alls = B.build (any_of (some note) (map-map (whole B) v ys i)) ∷ []; anys = B.build (any_of (some note) (map-map (whole B) v ys i)) ∷ [] }

  all_view : (v : ℕ → View N) (note : Option Note) (ys : List ℕ) → view_body B v (all_of note ys) ≡ view_body B (self_view B) (all_of note (map_list v ys))
  unfolding view_body read_shape open_all open_any
  all_view v none ys = λ i. record { shape = all_of none (map-map (whole B) v ys i); alls = flat_map (λ (x : View N). x.alls) v ys i; anys = B.build (all_of none (map-map (whole B) v ys i)) ∷ [] }
  all_view v (some note) ys = λ i. record { shape = all_of (some note) (map-map (whole B) v ys i); alls = B.build (all_of (some note) (map-map (whole B) v ys i)) ∷ []; anys = B.build (all_of (some note) (map-map (whole B) v ys i)) ∷ [] }

  array_view : (v : ℕ → View N) (w : Own) (x : Option ℕ) → view_body B v (array w x) ≡ view_body B (self_view B) (array w (map_option v x))
  unfolding view_body read_shape open_all open_any
  array_view v w none = refl
  array_view v w (some x) = refl

  object-view : {A : Type 0} (v : A → View N) (o : Object A) → view_body B v (object o) ≡ closed B (read_object B v o)
  unfolding view_body read_shape open_all open_any closed
  object-view v o = refl

  -- reading a shape does not change whether it detects
  detect_read : (v : ℕ → View N) (d : ℕ → Bool) (sh : Shape ℕ) → detecting (read_shape B v (sort_shape d sh)) ≡ detecting sh
  unfolding detecting read_shape sort_shape
  detect_read v d (plain w) = refl
  detect_read v d (any_of note xs) = refl
  detect_read v d (all_of note xs) = refl
  detect_read v d (array w x) = refl
  detect_read v d (object o) = refl
  detect_read v d (ref note t b) = refl

  detect_view : {t : Words} → Sound t → (n : ℕ) → n < count t → detecting (Vw t n).shape ≡ detecting (raw t n)
  unfolding view_body
  detect_view {t} z n i = ap (λ (x : View N). detecting x.shape) (view_of B z n i (raw t n) refl) ∙ detect_read (Vw t) _ (raw t n)

  extra_view : (v : ℕ → View N) (a : ℕ) (b : Bool) →
      map_option (flat_list (λ x. (v x).alls)) (pick b none (some (a ∷ []))) ≡ map_option (flat_list (λ (x : View N). x.alls)) (additional_from B (map_option v (pick b none (some a))))
  unfolding flat_list
  extra_view v a true = refl
  extra_view v a false = refl

  names-view : {t : Words} → Sound t → (n : ℕ) (b : Bool) → Perhaps (λ x. x < count t) (pick b none (some n)) →
      map_names (λ x. whole B (Vw t x)) (λ x. (Vw t x).anys) (sort_names (λ n. detecting (raw t n)) (pick b nameless (named (n ∷ [])))) ≡
      map_names (whole B) (λ (x : View N). x.anys) (names_from B (map_option (Vw t) (pick b none (some n))))
  unfolding sort_names names_from flat_list
  names-view z n true q = refl
  names-view {t} z n false (present i) = rw (detect_view z n i) (at (detecting (raw t n)))
    where
      at : (c : Bool) → map_names (λ x. whole B (Vw t x)) (λ x. (Vw t x).anys) (pick c (detects n) (named (n ∷ []))) ≡ map_names (whole B) (λ (x : View N). x.anys) (pick c (detects (Vw t n)) (named (Vw t n ∷ [])))
      at true = refl
      at false = refl

  -- joins, read
  extra_joined : {t : Words} → Sound t → {x : Option (List ℕ)} {a : ℕ} → Joined t (all_of none) x a →
      map_option (flat_list (λ x. (Vw t x).alls)) (pick (eqb a NONE) none (some (a ∷ []))) ≡ map_option (flat_list (λ x. (Vw t x).alls)) x
  unfolding flat_list
  extra_joined z j_none = refl
  extra_joined z (j_one {x = x} i) = rw (ne_eqb x NONE (λ e. omega (arith, z.placed.few)))
  extra_joined {t} z (j_many {xs = xs} {j = j} i r) =
      rw (ne_eqb j NONE (λ e. omega (arith, z.placed.few))) (ap some (append-nil (Vw t j).alls ∙ parts))
    where
      parts : (Vw t j).alls ≡ flat_list (λ x. (Vw t x).alls) xs
      parts = ap (λ (x : View N). x.alls) (view_of B z j i (all_of none xs) r) ∙ (unfold view_body sort_shape open_all in refl)

  names_joined : {t : Words} → Sound t → {x : Option (List ℕ)} {n : ℕ} → Joined t (any_of none) x n → PerhapsEvery (Plain t) x →
      map_names (λ x. whole B (Vw t x)) (λ x. (Vw t x).anys) (sort_names (λ n. detecting (raw t n)) (pick (eqb n NONE) nameless (named (n ∷ [])))) ≡
      map_names (λ x. whole B (Vw t x)) (λ x. (Vw t x).anys) (naming x)
  unfolding flat_list sort_names detecting
  names_joined z j_none q = refl
  names_joined z (j_one {x = x} i) (presents (one p nil)) = rw (ne_eqb x NONE (λ e. omega (arith, z.placed.few)), p)
  names_joined {t} z (j_many {xs = xs} {j = j} i r) q =
      rw (ne_eqb j NONE (λ e. omega (arith, z.placed.few)), r) (ap named (append-nil (Vw t j).anys ∙ parts))
    where
      parts : (Vw t j).anys ≡ flat_list (λ x. (Vw t x).anys) xs
      parts = ap (λ (x : View N). x.anys) (view_of B z j i (any_of none xs) r) ∙ (unfold view_body sort_shape open_any in refl)

  -- the objects among views are the objects among records, read
  cons_read : (v : ℕ → View N) (sh : Shape ℕ) (r : Option (List (Object ℕ))) →
      objects_cons (read_shape B v sh) (map_option (map_list (read_object B v)) r) ≡ map_option (map_list (read_object B v)) (objects_cons sh r)
  unfolding read_shape map_list
  cons_read v (plain w) r = refl
  cons_read v (any_of note xs) r = refl
  cons_read v (all_of note xs) r = refl
  cons_read v (array w x) r = refl
  cons_read v (object o) none = refl
  cons_read v (object o) (some os) = refl
  cons_read v (ref note t b) r = refl

  shape_of : {t : Words} → Sound t → (x : ℕ) → x < count t → (Vw t x).shape ≡ read_shape B (Vw t) (look t x)
  unfolding view_body
  shape_of {t} z x i = ap (λ (v : View N). v.shape) (view_is B (look t) (count t) (ordered z) x i)

  objects_read : {t : Words} → Sound t → {xs : List ℕ} → Every (λ x. x < count t) xs →
      objects_of (map_list (shape_of_view B) (map_list (Vw t) xs)) ≡ map_option (map_list (read_object B (Vw t))) (objects_of (looks t xs))
  unfolding objects_of map_list looks
  objects_read z nil = refl
  objects_read {t} z (one {x = x} {xs = xs} p ps) =
      ap₂ (λ (a : Shape N) (b : Option (List (Object N))). objects_cons a b) (shape_of z x p) (objects_read z ps) ∙ cons_read (Vw t) (look t x) (objects_of (looks t xs))

  cons_tidy : {t : Words} → Sound t → (x : ℕ) → x < count t → (sh : Shape ℕ) → look t x ≡ sh → (r : Option (List (Object ℕ))) (os : List (Object ℕ)) → objects_cons sh r ≡ some os →
      ((ps : List (Object ℕ)) → r ≡ some ps → AllTidy (λ x. x < count t) (Plain t) ps) → AllTidy (λ x. x < count t) (Plain t) os
  cons_tidy z x i (plain w) e r os h k = absurd (let q : ◌≡◌ {A = ℕ} 0 1 = cc in omega arith)
  cons_tidy z x i (any_of note xs) e r os h k = absurd (let q : ◌≡◌ {A = ℕ} 0 1 = cc in omega arith)
  cons_tidy z x i (all_of note xs) e r os h k = absurd (let q : ◌≡◌ {A = ℕ} 0 1 = cc in omega arith)
  cons_tidy z x i (array w y) e r os h k = absurd (let q : ◌≡◌ {A = ℕ} 0 1 = cc in omega arith)
  cons_tidy z x i (object o) e none os h k = absurd (let q : ◌≡◌ {A = ℕ} 0 1 = cc in omega arith)
  cons_tidy {t} z x i (object o) e (some ps) os h k =
      let f : o ∷ ps ≡ os = cc in
      subst (AllTidy (λ x. x < count t) (Plain t)) f (one_tidy (tidy t x o e (subst (Children (λ y. y < count t)) e (children_less (omega arith) (ordered z x i)))) (k ps refl))
  cons_tidy z x i (ref note n b) e r os h k = absurd (let q : ◌≡◌ {A = ℕ} 0 1 = cc in omega arith)

  all_tidy : {t : Words} → Sound t → {xs : List ℕ} → Every (λ x. x < count t) xs → (os : List (Object ℕ)) → objects_of (looks t xs) ≡ some os → AllTidy (λ x. x < count t) (Plain t) os
  unfolding objects_of looks
  all_tidy {t} z nil os h = let f : [] ≡ os = cc in subst (AllTidy (λ x. x < count t) (Plain t)) f none_tidy
  all_tidy {t} z (one {x = x} {xs = xs} p ps) os h = cons_tidy z x p (look t x) refl (objects_of (looks t xs)) os h (λ qs f. all_tidy z ps qs f)

  module _ (R : Room) (eq : ℕ → ℕ → Bool) (find : ℕ → Option ℕ) (roomy : R.schemas < NONE) (note-room : R.notes < NONE)
      (T : Words) (zT : Sound T) (known : (t : ℕ) → Perhaps (λ x. x < count T) (find t)) where
    -- compiled to record r, which stands for what was meant
    pub record Done (m : Option (View N)) (t t' : Words) (r : ℕ) : Type 0 where
      pub grown : Extends t t'
      pub sound : Sound t'
      pub new : r < count t'
      pub is : m ≡ some (Vw t' r)

    abbrev pub Good : (ℕ → Words → Result ℕ) → (ℕ → Option (View N)) → Type 0
    Good go gm = (s : ℕ) → s < count T → (t t' : Words) (r : ℕ) → Sound t → Extends T t → go s t ≡ ok r t' → Done (gm s) t t' r

    record Eaches (m : Option (List (View N))) (t t' : Words) (ys : List ℕ) : Type 0 where
      grown : Extends t t'
      sound : Sound t'
      news : Every (λ x. x < count t') ys
      is : m ≡ some (map_list (Vw t') ys)

    record Pairings (m : Option (List (Pair (View N)))) (t t' : Words) (ys : List (Pair ℕ)) : Type 0 where
      grown : Extends t t'
      sound : Sound t'
      news : EveryPair (λ x. x < count t') ys
      is : m ≡ some (map_list (map_pair (Vw t')) ys)

    record Optional (m : Option (Option (View N))) (t t' : Words) (y : ℕ) : Type 0 where
      grown : Extends t t'
      sound : Sound t'
      new : Perhaps (λ x. x < count t') (optional y)
      is : m ≡ some (map_option (Vw t') (optional y))

    -- views of what was there stay
    list_kept : {t u : Words} → Sound t → Extends t u → {xs : List ℕ} → Every (λ x. x < count t) xs → map_list (Vw u) xs ≡ map_list (Vw t) xs
    unfolding map_list
    list_kept z e nil = refl
    list_kept z e (one {x = x} p ps) = cc (view-kept B z e x p, list_kept z e ps)

    pairs-kept : {t u : Words} → Sound t → Extends t u → {xs : List (Pair ℕ)} → EveryPair (λ x. x < count t) xs → map_list (map_pair (Vw u)) xs ≡ map_list (map_pair (Vw t)) xs
    unfolding map_list
    pairs-kept z e nil_pair = refl
    pairs-kept z e (one_pair {x = x} p ps) = cc (view-kept B z e x.value p, pairs-kept z e ps)

    option_kept : {t u : Words} → Sound t → Extends t u → {x : Option ℕ} → Perhaps (λ x. x < count t) x → map_option (Vw u) x ≡ map_option (Vw t) x
    option_kept z e absent = refl
    option_kept z e (present {x = x} p) = ap some (view-kept B z e x p)

    module _ (go : ℕ → Words → Result ℕ) (gm : ℕ → Option (View N)) (good : Good go gm) where
      each_step : (x : ℕ) (xs : List ℕ) (t u w : Words) (y : ℕ) (ys : List ℕ) → Done (gm x) t u y → Eaches (each_m gm xs) u w ys → Eaches (each_m gm (x ∷ xs)) t w (y ∷ ys)
      unfolding each_m map_list
      each_step x xs t u w y ys d f = record {
        grown = extends_more d.grown f.grown;
        sound = f.sound;
        news = one {x = y} (omega (arith, d.new, count_grows f.grown)) f.news;
        is = rw (d.is, f.is) (ap (λ (v : View N). some (v ∷ map_list (Vw w) ys)) (sym (view-kept B d.sound f.grown y d.new)));
      }

      each_law : (xs : List ℕ) → Every (λ x. x < count T) xs → (t t' : Words) (ys : List ℕ) → Sound t → Extends T t → each R eq find go xs t ≡ ok ys t' → Eaches (each_m gm xs) t t' ys
      unfolding each
      each_law [] q t t' ys z e h =
          ok_same (λ ys t'. Eaches (each_m gm []) t t' ys) [] ys t t' h (record { grown = extends_self t; sound = z; news = nil; is = unfold each_m map_list in refl })
      each_law (x ∷ xs) (one p ps) t t' ys z e h =
          then_elim (go x t) _ ys t' (λ y u a h.
          then_elim (each R eq find go xs u) _ ys t' (λ zs w b h.
          let d : Done (gm x) t u y = good x p t u y z e a in
          ok_same (λ ys t'. Eaches (each_m gm (x ∷ xs)) t t' ys) (y ∷ zs) ys w t' h
          (each_step x xs t u w y zs d (each_law xs ps u w zs d.sound (extends_more e d.grown) b))) h) h

      pair_step : (x : Pair ℕ) (xs : List (Pair ℕ)) (t u w : Words) (y : ℕ) (ys : List (Pair ℕ)) → Done (gm x.value) t u y → Pairings (each_pair_m gm xs) u w ys →
          Pairings (each_pair_m gm (x ∷ xs)) t w (record { key = x.key; value = y } ∷ ys)
      unfolding each_pair_m map_list
      pair_step x xs t u w y ys d f = let i : y < count w = omega (arith, d.new, count_grows f.grown) in record {
        grown = extends_more d.grown f.grown;
        sound = f.sound;
        news = one_pair i f.news;
        is = rw (d.is, f.is) (ap (λ (v : View N). some (record { key = x.key; value = v } ∷ map_list (map_pair (Vw w)) ys)) (sym (view-kept B d.sound f.grown y d.new)));
      }

      pairs_law : (xs : List (Pair ℕ)) → EveryPair (λ x. x < count T) xs → (t t' : Words) (ys : List (Pair ℕ)) → Sound t → Extends T t → each_pair R eq find go xs t ≡ ok ys t' → Pairings (each_pair_m gm xs) t t' ys
      unfolding each_pair
      pairs_law [] q t t' ys z e h =
          ok_same (λ ys t'. Pairings (each_pair_m gm []) t t' ys) [] ys t t' h (record { grown = extends_self t; sound = z; news = nil_pair; is = unfold each_pair_m map_list in refl })
      pairs_law (x ∷ xs) (one_pair p ps) t t' ys z e h =
          then_elim (go x.value t) _ ys t' (λ y u a h.
          then_elim (each_pair R eq find go xs u) _ ys t' (λ zs w b h.
          let d : Done (gm x.value) t u y = good x.value p t u y z e a in
          ok_same (λ ys t'. Pairings (each_pair_m gm (x ∷ xs)) t t' ys) (record { key = x.key; value = y } ∷ zs) ys w t' h
          (pair_step x xs t u w y zs d (pairs_law xs ps u w zs d.sound (extends_more e d.grown) b))) h) h

      optional_law : (x : ℕ) → Perhaps (λ x. x < count T) (optional x) → (t t' : Words) (y : ℕ) → Sound t → Extends T t → optionally R eq find go x t ≡ ok y t' → Optional (option_m gm (optional x)) t t' y
      unfolding optionally option_m
      optional_law x q t t' y z e h = at (eqb x NONE) q h
        where
          at : (b : Bool) → Perhaps (λ x. x < count T) (pick b none (some x)) → pick b (ok NONE t) (go x t) ≡ ok y t' → Optional (option_m gm (pick b none (some x))) t t' y
          at true q h = ok_same (λ y t'. Optional (some none) t t' y) NONE y t t' h (record { grown = extends_self t; sound = z; new = absent; is = refl })
          at false (present p) h =
              let d : Done (gm x) t t' y = good x p t t' y z e h in
              let f : eqb y NONE ≡ false = ne_eqb y NONE (λ q. omega (arith, d.new, d.sound.placed.few)) in
              record { grown = d.grown; sound = d.sound; new = rw f (present d.new); is = rw (d.is, f) }

      module _ (s : ℕ) (i : s < count T) (t : Words) (z : Sound t) (e : Extends T t) where
        any_case : (note : Option Note) (xs : List ℕ) (b : Option (List ℕ)) → note_in T (get_or (row_at T s) 1 0) ≡ note → Every (λ x. x < count T) xs → (t' : Words) (r : ℕ) →
            compile_shape R eq find go s t (any_of note xs) b ≡ ok r t' → Done (meant_shape B eq find (view B (look T)) gm s (any_of note xs) b) t t' r
        unfolding compile_shape meant_shape row_at own_words
        any_case note xs b noted q t' r =
            then_elim (each R eq find go xs t) _ r t' (λ ys u a h.
            let f : Eaches (each_m gm xs) t u ys = each_law xs q t u ys z e a in
            let on : Extends T u = extends_more e f.grown in
            let d : Added u t' r (any_of note ys) = any_law R eq find roomy note-room (get_or (row_at u s) 1 0) note ys u r t' f.sound
            (λ w g. ap (λ (x : List ℕ). note_in w (get_or x 1 0)) (row_kept zT.placed on s i) ∙ (note_steady zT (extends_more on g) s i ∙ noted)) f.news h in
            record {
              grown = extends_more f.grown d.grown;
              sound = d.sound;
              new = d.new;
              is = rw f.is (ap some (ap (λ (x : List (View N)). view_body B (self_view B) (any_of note x)) (sym (list_kept f.sound d.grown f.news)) ∙
                  (sym (any_view (Vw t') note ys) ∙ sym (view_of B d.sound r d.new (any_of note ys) d.is ∙ (unfold sort_shape in refl)))));
            })

        all_case : (note : Option Note) (xs : List ℕ) (b : Option (List ℕ)) → note_in T (get_or (row_at T s) 1 0) ≡ note → Every (λ x. x < count T) xs → (t' : Words) (r : ℕ) →
            compile_shape R eq find go s t (all_of note xs) b ≡ ok r t' → Done (meant_shape B eq find (view B (look T)) gm s (all_of note xs) b) t t' r
        unfolding compile_shape meant_shape row_at own_words
        all_case note xs b noted q t' r =
            then_elim (each R eq find go xs t) _ r t' (λ ys u a h.
            let f : Eaches (each_m gm xs) t u ys = each_law xs q t u ys z e a in
            let on : Extends T u = extends_more e f.grown in
            let d : Added u t' r (all_of note ys) = all_law R eq find roomy note-room (get_or (row_at u s) 1 0) note ys u r t' f.sound
            (λ w g. ap (λ (x : List ℕ). note_in w (get_or x 1 0)) (row_kept zT.placed on s i) ∙ (note_steady zT (extends_more on g) s i ∙ noted)) f.news h in
            record {
              grown = extends_more f.grown d.grown;
              sound = d.sound;
              new = d.new;
              is = rw f.is (ap some (ap (λ (x : List (View N)). view_body B (self_view B) (all_of note x)) (sym (list_kept f.sound d.grown f.news)) ∙
                  (sym (all_view (Vw t') note ys) ∙ sym (view_of B d.sound r d.new (all_of note ys) d.is ∙ (unfold sort_shape in refl)))));
            })

        array_steady : (u w : Words) → Extends T u → Extends u w → array_of w (row_at u s) ≡ array_of T (row_at T s)
        unfolding array_of
        array_steady u w on g = rw (row_kept zT.placed on s i) (ap (λ (x : Option Note). record { kind = 9; note = x; words = slice (row_at T s) 3 3 }) (note_steady zT (extends_more on g) s i))

        array_case : (b : Option (List ℕ)) → Perhaps (λ x. x < count T) (optional (get_or (row_at T s) 2 0)) → (t' : Words) (r : ℕ) →
            compile_shape R eq find go s t (array (array_of T (row_at T s)) (optional (get_or (row_at T s) 2 0))) b ≡ ok r t' → Done (meant_shape B eq find (view B (look T)) gm s (array (array_of T (row_at T s)) (optional (get_or (row_at T s) 2 0))) b) t t' r
        unfolding compile_shape meant_shape add_array row_at own_words
        array_case b q t' r =
            then_elim (optionally R eq find go (get_or (row_at t s) 2 0) t) _ r t' (λ y u a h.
            let f : Optional (option_m gm (optional (get_or (row_at T s) 2 0))) t u y = optional_law (get_or (row_at T s) 2 0) q t u y z e (subst (λ (x : List ℕ). optionally R eq find go (get_or x 2 0) t ≡ ok y u) (row_kept zT.placed e s i) a) in
            let on : Extends T u = extends_more e f.grown in
            let d : Added u t' r (array (array_of T (row_at T s)) (optional y)) = array_law R eq find roomy note-room (row_at u s) (array_of T (row_at T s)) y u r t' f.sound
            (λ w g. array_steady u w on g) f.new h in
            record {
              grown = extends_more f.grown d.grown;
              sound = d.sound;
              new = d.new;
              is = rw f.is (ap some (ap (λ (x : Option (View N)). view_body B (self_view B) (array (array_of T (row_at T s)) x)) (sym (option_kept f.sound d.grown f.new)) ∙
                  (sym (array_view (Vw t') (array_of T (row_at T s)) (optional y)) ∙ sym (view_of B d.sound r d.new (array (array_of T (row_at T s)) (optional y)) d.is ∙ (unfold sort_shape in refl)))));
            })

        same_case : (t' : Words) (r : ℕ) → ok s t ≡ ok r t' → Done (some (Vw T s)) t t' r
        same_case t' r h =
            ok_same (λ r t'. Done (some (Vw T s)) t t' r) s r t t' h
            (record { grown = extends_self t; sound = z; new = omega (arith, count_grows e); is = ap some (sym (view-kept B zT e s i)) })

        ref_case : (note : Option Note) (name : ℕ) (eager : Bool) (b : Option (List ℕ)) → (t' : Words) (r : ℕ) →
            compile_shape R eq find go s t (ref note name eager) b ≡ ok r t' → Done (meant_shape B eq find (view B (look T)) gm s (ref note name eager) b) t t' r
        unfolding compile_shape meant_shape
        ref_case note name false b t' r h = same_case t' r h
        ref_case note name true b t' r h = at (find name) (known name) h
          where
            at : (x : Option ℕ) → Perhaps (λ x. x < count T) x → eagerly R eq find go x t ≡ ok r t' → Done (eagerly_m B gm x) t t' r
            at none absent h = absurd (let q : ◌≡◌ {A = ℕ} 0 1 = cc in omega arith)
            at (some x) (present p) h = good x p t t' r z e h

        -- a plain object, read from its words and from its compiled children
        object_eq : (t' : Words) → Sound t' → (ps qs : List (Pair ℕ)) (a n : ℕ) (Ps Qs : List (Pair (View N))) (A M : Option (View N)) → Ps ≡ map_list (map_pair (Vw t')) ps → Qs ≡ map_list (map_pair (Vw t')) qs →
            A ≡ map_option (Vw t') (optional a) → M ≡ map_option (Vw t') (optional n) → Perhaps (λ x. x < count t') (optional n) →
            read_object B (self_view B) (object_from B (sort_object (λ n. detecting (raw T n)) (object_of T (row_at T s))) Ps Qs A M) ≡
            read_object B (Vw t') (sort_object (λ n. detecting (raw t' n)) (object_words R eq find roomy note-room (note_in T (get_or (row_at T s) 1 0)) ps qs a (slice T.links (get_or (row_at T s) 7 0) (get_or (row_at T s) 8 0))
            (get_or (row_at T s) 9 0) (get_or (row_at T s) 10 0) (get_or (row_at T s) 11 0) n (get_or (row_at T s) 13 0)))
        unfolding read_object object_of
        object_eq t' z' ps qs a n Ps Qs A M p q x y k = λ i. record {
          note = note_in T (get_or (row_at T s) 1 0);
          props = (ap (map_list (map_pair (whole B))) p ∙ sym (pairs-map (whole B) (Vw t') ps)) i;
          patterns = (ap (map_list (map_pair (whole B))) q ∙ sym (pairs-map (whole B) (Vw t') qs)) i;
          additional = (ap (λ (v : Option (View N)). map_option (flat_list (λ (x : View N). x.alls)) (additional_from B v)) x ∙ sym (extra_view (Vw t') a (eqb a NONE))) i;
          required = slice T.links (get_or (row_at T s) 7 0) (get_or (row_at T s) 8 0);
          least = get_or (row_at T s) 9 0;
          most = get_or (row_at T s) 10 0;
          closed = eqb (get_or (row_at T s) 11 0) 1;
          names = (ap (λ (v : Option (View N)). map_names (whole B) (λ (x : View N). x.anys) (names_from B v)) y ∙ sym (names-view z' n (eqb n NONE) k)) i;
          naming = get_or (row_at T s) 13 0;
        }

        object_case : raw T s ≡ object (object_of T (row_at T s)) → ObjectIn (λ x. x < s) (object_of T (row_at T s)) → (t' : Words) (r : ℕ) →
            compile_shape R eq find go s t (object (sort_object (λ n. detecting (raw T n)) (object_of T (row_at T s)))) none ≡ ok r t' →
            Done (meant_shape B eq find (view B (look T)) gm s (object (sort_object (λ n. detecting (raw T n)) (object_of T (row_at T s)))) none) t t' r
        unfolding compile_shape meant_shape row_at own_words
        object_case here q t' r =
            let o : Object ℕ = object_of T (row_at T s) in
            let qa : Perhaps (λ x. x < count T) (optional (get_or (row_at T s) 6 0)) = word_less {s = s} (omega arith) (get_or (row_at T s) 6 0) (eqb (get_or (row_at T s) 6 0) NONE) (unfold object_of in q.additional) in
            let qn : Perhaps (λ x. x < count T) (optional (get_or (row_at T s) 12 0)) = names_less {s = s} (omega arith) (get_or (row_at T s) 12 0) (eqb (get_or (row_at T s) 12 0) NONE) (unfold object_of in q.names) in
            let one-a : one_part o.additional ≡ optional (get_or (row_at T s) 6 0) = unfold object_of in part_word (get_or (row_at T s) 6 0) (eqb (get_or (row_at T s) 6 0) NONE) in
            let one_n : one_name (sort_names (λ n. detecting (raw T n)) o.names) ≡ optional (get_or (row_at T s) 12 0) = unfold object_of in name_word (λ n. detecting (raw T n)) (get_or (row_at T s) 12 0) (eqb (get_or (row_at T s) 12 0) NONE) in
            then_elim (each_pair R eq find go o.props t) _ r t' (λ ps u₁ a₁ h.
            then_elim (each_pair R eq find go o.patterns u₁) _ r t' (λ qs u₂ a₂ h.
            then_elim (optionally R eq find go (get_or (row_at u₂ s) 6 0) u₂) _ r t' (λ a u₃ a₃ h.
            then_elim (optionally R eq find go (get_or (row_at u₃ s) 12 0) u₃) _ r t' (λ n u₄ a₄ h.
            let f₁ : Pairings (each_pair_m gm o.props) t u₁ ps = pairs_law o.props (pairs_less (omega arith) q.props) t u₁ ps z e a₁ in
            let e₁ : Extends T u₁ = extends_more e f₁.grown in
            let f₂ : Pairings (each_pair_m gm o.patterns) u₁ u₂ qs = pairs_law o.patterns (pairs_less (omega arith) q.patterns) u₁ u₂ qs f₁.sound e₁ a₂ in
            let e₂ : Extends T u₂ = extends_more e₁ f₂.grown in
            let f₃ : Optional (option_m gm (optional (get_or (row_at T s) 6 0))) u₂ u₃ a = optional_law (get_or (row_at T s) 6 0) qa u₂ u₃ a f₂.sound e₂ (subst (λ (x : List ℕ). optionally R eq find go (get_or x 6 0) u₂ ≡ ok a u₃) (row_kept zT.placed e₂ s i) a₃) in
            let e₃ : Extends T u₃ = extends_more e₂ f₃.grown in
            let f₄ : Optional (option_m gm (optional (get_or (row_at T s) 12 0))) u₃ u₄ n = optional_law (get_or (row_at T s) 12 0) qn u₃ u₄ n f₃.sound e₃ (subst (λ (x : List ℕ). optionally R eq find go (get_or x 12 0) u₃ ≡ ok n u₄) (row_kept zT.placed e₃ s i) a₄) in
            let e₄ : Extends T u₄ = extends_more e₃ f₄.grown in
            let g₃ : Extends u₃ u₄ = f₄.grown in
            let g₂ : Extends u₂ u₄ = extends_more f₃.grown g₃ in
            let g₁ : Extends u₁ u₄ = extends_more f₂.grown g₂ in
            let d = object_law R eq find roomy note-room (row_at T s) (note_in T (get_or (row_at T s) 1 0)) (slice T.links (get_or (row_at T s) 7 0) (get_or (row_at T s) 8 0)) ps qs a n u₄ r t' f₄.sound
            (λ w g. note_steady zT (extends_more e₄ g) s i) (λ w g. required_steady zT (extends_more e₄ g) s i o here)
            (pairs-later g₁ f₁.news) (pairs-later g₂ f₂.news) (option_later g₃ f₃.new) f₄.new (subst (λ (x : List ℕ). row_object R eq find roomy note-room x ps qs a n u₄ ≡ ok r t') (row_kept zT.placed e₄ s i) (sym (row_object_lem R eq find roomy note-room s ps qs a n u₄) ∙ h)) in
            record {
              grown = extends_more f₁.grown (extends_more g₁ d.grown);
              sound = d.sound;
              new = d.new;
              is = rw (f₁.is, f₂.is, ap (option_m gm) one-a ∙ f₃.is, ap (option_m gm) one_n ∙ f₄.is) (ap some (object-view (self_view B) _ ∙
                  (ap (closed B) (object_eq t' d.sound ps qs a n _ _ _ _
                  (sym (pairs-kept f₁.sound (extends_more g₁ d.grown) f₁.news)) (sym (pairs-kept f₂.sound (extends_more g₂ d.grown) f₂.news))
                  (sym (option_kept f₃.sound (extends_more g₃ d.grown) f₃.new)) (sym (option_kept f₄.sound d.grown f₄.new)) (option_later d.grown f₄.new)) ∙
                  (sym (object-view (Vw t') _) ∙ sym (view_of B d.sound r d.new _ d.is ∙ (unfold sort_shape in refl))))));
            }) h) h) h)

        -- a merged object's words, read, are the merge of what its bases read
        merged_eq : (u t' : Words) (r : ℕ) → Sound u → (o : Object ℕ) (os : List (Object ℕ)) → MergeAdded R eq find roomy note-room (note_of (gather eq start os).note o.note) (gather eq start os).names (derive eq (gather eq start os) o) u t' r →
            ObjectIn (λ x. x < count u) (derive eq (gather eq start os) o) → PerhapsEvery (λ x. x < count u) (gather eq start os).names → PerhapsEvery (Plain u) (gather eq start os).names →
            Vw t' r ≡ closed B (merge eq (map_list (read_object B (Vw u)) os) (read_object B (Vw u) o))
        unfolding sort_shape read_object
        merged_eq u t' r zu o os m inside bound counted =
            view_of B m.added.sound r m.added.new _ m.added.is ∙
            (object-view (Vw t') _ ∙
            ap (closed B)
            ((λ i. record {
              note = some (note_of (gather eq start os).note o.note);
              props = map_list (map_pair (λ x. whole B (Vw t' x))) (derive eq (gather eq start os) o).props;
              patterns = map_list (map_pair (λ x. whole B (Vw t' x))) (derive eq (gather eq start os) o).patterns;
              additional = extra_joined m.added.sound m.extra_is i;
              required = (derive eq (gather eq start os) o).required;
              least = o.least;
              most = o.most;
              closed = closed_word (derive eq (gather eq start os) o).closed i;
              names = names_joined m.added.sound m.naming_is (plains_later zu m.added.grown bound counted) i;
              naming = o.naming;
            }) ∙
            (object_same B (Vw t') (Vw u) (λ x p. view-kept B zu m.added.grown x p) inside ∙
            nat_merge eq (λ x. whole B (Vw u x)) (λ x. (Vw u x).alls) (λ x. (Vw u x).anys) os o)))

        merge_some : (f : Object ℕ → Object N) (p : Object ℕ) (ps : List (Object ℕ)) (d : Object N) → merge_m B eq (map_option (map_list f) (some (p ∷ ps))) d ≡ some (closed B (merge eq (map_list f (p ∷ ps)) d))
        unfolding map_list
        merge_some f p ps d = refl

        bases_case : (bs : List ℕ) → Every (λ x. x < s) bs → (o : Object ℕ) → Tidy (λ x. x < s) (Plain T) o → (t' : Words) (r : ℕ) →
            compile_shape R eq find go s t (object o) (some bs) ≡ ok r t' → Done (meant_shape B eq find (view B (look T)) gm s (object o) (some bs)) t t' r
        unfolding compile_shape meant_shape
        bases_case bs q o td t' r =
            then_elim (each R eq find go bs t) _ r t' (λ rs u a h.
            let f : Eaches (each_m gm bs) t u rs = each_law bs (every_less (omega arith) q) t u rs z e a in
            let on : Extends T u = extends_more e f.grown in
            let le : s ≤ count u = omega (arith, count_grows on) in
            at rs u f on le (objects_of (looks u rs)) refl h)
          where
            at : (rs : List ℕ) (u : Words) → Eaches (each_m gm bs) t u rs → Extends T u → s ≤ count u → (x : Option (List (Object ℕ))) → objects_of (looks u rs) ≡ x → merge_from R eq find x o u ≡ ok r t' →
                Done (bind (each_m gm bs) (λ vs. merge_m B eq (objects_of (map_list (shape_of_view B) vs)) (read_object B (view B (look T)) o))) t t' r
            at rs u f on le none x h = absurd (let q : ◌≡◌ {A = ℕ} 0 1 = cc in omega arith)
            at rs u f on le (some []) x h = absurd (let q : ◌≡◌ {A = ℕ} 0 1 = cc in omega arith)
            at rs u f on le (some (p ∷ ps)) x h =
                let g : Gathered ℕ = gather eq start (p ∷ ps) in
                let k : GatheredIn (λ x. x < count u) (Plain u) g = gather_in eq start (p ∷ ps) (start_in eq) (all_tidy f.sound f.news (p ∷ ps) x) in
                let own : ObjectIn (λ x. x < count u) o = object_less le td.inside in
                let inside : ObjectIn (λ x. x < count u) (derive eq g o) = record {
                  props = put_all_in eq g.props o.props k.props own.props;
                  patterns = put_all_in eq g.patterns o.patterns k.patterns own.patterns;
                  additional = join_in k.additional own.additional;
                  names = naming_in k.names;
                } in
                let m : MergeAdded R eq find roomy note-room (note_of g.note o.note) g.names (derive eq g o) u t' r =
                merged_law R eq find roomy note-room (note_of g.note o.note) g.names (derive eq g o) (join_filled k.filled td.filled) k.named_filled u r t' f.sound
                inside.props inside.patterns inside.additional k.names h in
                record {
                  grown = extends_more f.grown m.added.grown;
                  sound = m.added.sound;
                  new = m.added.new;
                  is = rw (f.is, objects_read f.sound f.news, x)
                      (merge_some (read_object B (Vw u)) p ps (read_object B (Vw T) o) ∙ ap some (ap (λ (d : Object N). closed B (merge eq (map_list (read_object B (Vw u)) (p ∷ ps)) d)) (sym (object_same B (Vw u) (Vw T) (λ x i. view-kept B zT on x i) (object_less {s = s} (omega arith) td.inside))) ∙
                      sym (merged_eq u t' r f.sound o (p ∷ ps) m inside k.names k.names_too)));
                }

        cases : (sh : Shape ℕ) → raw T s ≡ sh → Reads T (row_at T s) sh → Children (λ x. x < s) sh → (b : Option (List ℕ)) → PerhapsEvery (λ x. x < s) b → (t' : Words) (r : ℕ) →
            compile_shape R eq find go s t (sort_shape (λ n. detecting (raw T n)) sh) b ≡ ok r t' → Done (meant_shape B eq find (view B (look T)) gm s (sort_shape (λ n. detecting (raw T n)) sh) b) t t' r
        unfolding sort_shape
        cases sh e r_plain c b q t' r h = unfold compile_shape meant_shape in same_case t' r h
        cases sh e r_any (in_any c) b q t' r h = any_case _ _ b refl (every_less (omega arith) c) t' r h
        cases sh e r_all (in_all c) b q t' r h = all_case _ _ b refl (every_less (omega arith) c) t' r h
        cases sh e r_array (in_array c) b q t' r h = array_case b (option_less (omega arith) c) t' r h
        cases sh e r_object (in_object c) none q t' r h = object_case e c t' r h
        cases sh e r_object (in_object c) (some bs) (presents q) t' r h =
            bases_case bs q (sort_object (λ n. detecting (raw T n)) (object_of T (row_at T s)))
            (tidy T s (sort_object (λ n. detecting (raw T n)) (object_of T (row_at T s))) (unfold look in (ap (sort_shape (λ n. detecting (raw T n))) e))
            (sort_children (λ n. detecting (raw T n)) (in_object c))) t' r h
        cases sh e r_ref c b q t' r h = ref_case _ _ _ b t' r h

    compiled-step : (go : ℕ → Words → Result ℕ) (gm : ℕ → Option (View N)) → Good go gm → (s : ℕ) → s < count T → (t t' : Words) (r : ℕ) → Sound t → Extends T t →
        compile_shape R eq find go s t (look T s) (bases T s) ≡ ok r t' → Done (meant_shape B eq find (view B (look T)) gm s (look T s) (bases T s)) t t' r
    unfolding look
    compiled-step go gm good s i t t' r z e h = cases go gm good s i t z e (raw T s) refl (subst (Reads T (row_at T s)) (sym (raw_row T s)) (reads T (row_at T s))) (zT.placed.below s i) (bases T s) (zT.placed.bases_below s i) t' r h

    -- compile appends, and its record stands for what compiling means
    pub compiled : (k : ℕ) → Good (compile_at R eq find k) (meant_at B eq find T k)
    unfolding compile_at meant_of
    compiled zero s i t t' r z e h = absurd (let q : ◌≡◌ {A = ℕ} 0 1 = cc in omega arith)
    compiled (suc k) s i t t' r z e h =
        compiled-step (compile_at R eq find k) (meant_at B eq find T k) (compiled k) s i t t' r z e (rw (look-kept zT e s i, zT.steady_bases s i t e) at h)
