-- Merging notes, replacing pairs in place and joining are associative, so a run of bases may be merged first. Assumes nothing.
use Prim.Native.Nat.{ℕ}
use mathlib.Core.Path.{◌≡◌, refl, sym, ap, ◌∙◌}
use mathlib.Core.Bool.{Bool, true, false, ◌||◌, or-false, or_assoc}
use mathlib.Core.List.{List, [], ◌∷◌, ◌++◌, append-nil, append_assoc}
use mathlib.Core.Option.{Option, some, none}
use Rattle.text.specs.Choice.{pick}
use Rattle.layout.specs.Layout.{NONE}
use Rattle.schema.specs.Shape.{Pair, Object}
use Rattle.merge.specs.Merge.{Kept, later, with_tags, over, put, put_all, ◌⊕◌, counting, naming, Gathered, start, add, gather, derive, merge, empty}
use lib.Dec.{eqb}

later_assoc : (x y z : ℕ) → later (later x y) z ≡ later x (later y z)
unfolding later
later_assoc x y z = go (eqb z NONE) refl
  where
    go : (b : Bool) → eqb z NONE ≡ b → pick (eqb z NONE) (pick (eqb y NONE) x y) z ≡ pick (eqb (pick (eqb z NONE) y z) NONE) x (pick (eqb z NONE) y z)
    go true e = rw e
    go false e = simp e

tags_assoc : (x s y t z : ℕ) → with_tags (with_tags x s y) t z ≡ with_tags x (later s t) (with_tags y t z)
unfolding later with_tags
tags_assoc x s y t z = go (eqb t NONE) refl
  where
    go : (b : Bool) → eqb t NONE ≡ b → pick (eqb t NONE) (pick (eqb s NONE) x y) z ≡ pick (eqb (pick (eqb t NONE) s t) NONE) x (pick (eqb t NONE) y z)
    go true e = rw e
    go false e = simp e

later-none : (x : ℕ) → later x NONE ≡ x
unfolding later
later-none x = refl

tags-none : (x y : ℕ) → with_tags x NONE y ≡ x
unfolding with_tags
tags-none x y = refl

-- joining is associative
pub join_assoc : {A : Type 0} (x y z : Option (List A)) → (x ⊕ y) ⊕ z ≡ x ⊕ (y ⊕ z)
join_assoc x y none = refl
join_assoc x none (some z) = refl
join_assoc none (some y) (some z) = refl
join_assoc (some x) (some y) (some z) = ap some (append_assoc x y z)

-- merging notes is associative, field by field
pub notes_assoc : (x y z : Kept) → over (over x y) z ≡ over x (over y z)
notes_assoc x y z = simp (later_assoc, tags_assoc)

counting-naming : {A : Type 0} (x : Option (List A)) → counting (naming x) ≡ x
counting-naming none = refl
counting-naming (some x) = refl

-- equality of keys, as a test
pub record Keys (eq : ℕ → ℕ → Bool) : Type 0 where
  pub self : (a : ℕ) → eq a a ≡ true
  pub turn : (a b : ℕ) → eq a b ≡ eq b a
  pub swap : (a b c : ℕ) → eq a b ≡ true → eq a c ≡ eq b c

same_test : {eq : ℕ → ℕ → Bool} (K : Keys eq) (a b c : ℕ) → eq b c ≡ true → eq a b ≡ eq a c
same_test K a b c h = K.turn a b ∙ (K.swap b c a h ∙ K.turn c a)

module _ {A : Type 0} (eq : ℕ → ℕ → Bool) (K : Keys eq) where
  -- some pair, and no pair, has that key
  pub data Has (k : ℕ) : List (Pair A) → Type 0 where
    first : {p : Pair A} {ps : List (Pair A)} → eq p.key k ≡ true → Has k (p ∷ ps)
    after : {p : Pair A} {ps : List (Pair A)} → Has k ps → Has k (p ∷ ps)

  pub data Lacks (k : ℕ) : List (Pair A) → Type 0 where
    ended : Lacks k []
    other : {p : Pair A} {ps : List (Pair A)} → eq p.key k ≡ false → Lacks k ps → Lacks k (p ∷ ps)

  pub data Distinct : List (Pair A) → Type 0 where
    done : Distinct []
    new : {p : Pair A} {ps : List (Pair A)} → Lacks p.key ps → Distinct ps → Distinct (p ∷ ps)

  -- the two cases of `put` at a pair
  put_hit : (p q : Pair A) (qs : List (Pair A)) → eq q.key p.key ≡ true → put eq p (q ∷ qs) ≡ p ∷ qs
  unfolding put
  put_hit p q qs h = rw h

  put_miss : (p q : Pair A) (qs : List (Pair A)) → eq q.key p.key ≡ false → put eq p (q ∷ qs) ≡ q ∷ put eq p qs
  unfolding put
  put_miss p q qs h = rw h

  put_has : (p : Pair A) (l : List (Pair A)) → Has p.key (put eq p l)
  unfolding put
  put_has p [] = first (K.self p.key)
  put_has p (q ∷ qs) = go (eq q.key p.key) refl (put_has p qs)
    where
      go : (b : Bool) → eq q.key p.key ≡ b → Has p.key (put eq p qs) → Has p.key (pick b (p ∷ qs) (q ∷ put eq p qs))
      go true h r = first (K.self p.key)
      go false h r = after r

  -- a pair put over one with its key
  put_twice : (p q : Pair A) (l : List (Pair A)) → eq q.key p.key ≡ true → put eq p (put eq q l) ≡ put eq p l
  put_twice p q [] h = unfold put in rw h
  put_twice p q (r ∷ rs) h = go (eq r.key q.key) refl (put_twice p q rs h)
    where
      go : (b : Bool) → eq r.key q.key ≡ b → put eq p (put eq q rs) ≡ put eq p rs → put eq p (put eq q (r ∷ rs)) ≡ put eq p (r ∷ rs)
      go true e ih = cc (put_hit q r rs e, put_hit p q rs h, put_hit p r rs (sym (same_test K r.key q.key p.key h) ∙ e))
      go false e ih = cc (put_miss q r rs e, put_miss p r (put eq q rs) (sym (same_test K r.key q.key p.key h) ∙ e), put_miss p r rs (sym (same_test K r.key q.key p.key h) ∙ e))

  -- a pair whose key is there changes places with one of another key
  put_over : (p r : Pair A) (l : List (Pair A)) → Has p.key l → eq r.key p.key ≡ false → put eq p (put eq r l) ≡ put eq r (put eq p l)
  put_over p r [] x'' n = elim x'' [ ]
  put_over p r (q ∷ qs) (first h) n =
      let m : eq q.key r.key ≡ false = K.swap q.key p.key r.key h ∙ (K.turn p.key r.key ∙ n) in
      let w : eq p.key r.key ≡ false = K.turn p.key r.key ∙ n in
      cc (put_miss r q qs m, put_hit p q (put eq r qs) h, put_hit p q qs h, put_miss r p qs w)
  put_over p r (q ∷ qs) (after has) n = go (eq q.key p.key) (eq q.key r.key) refl refl (put_over p r qs has n)
    where
      w : eq p.key r.key ≡ false
      w = K.turn p.key r.key ∙ n

      go : (b c : Bool) → eq q.key p.key ≡ b → eq q.key r.key ≡ c → put eq p (put eq r qs) ≡ put eq r (put eq p qs) →
          put eq p (put eq r (q ∷ qs)) ≡ put eq r (put eq p (q ∷ qs))
      go true true h k ih = let z : true ≡ false = cc (K.swap q.key p.key r.key h, K.turn p.key r.key) in cc
      go true false h k ih = cc (put_miss r q qs k, put_hit p q (put eq r qs) h, put_hit p q qs h, put_miss r p qs w)
      go false true h k ih = cc (put_hit r q qs k, put_miss p r qs n, put_miss p q qs h, put_hit r q (put eq p qs) k)
      go false false h k ih = cc (put_miss r q qs k, put_miss p q (put eq r qs) h, put_miss p q qs h, put_miss r q (put eq p qs) k)

  has_put : (k : ℕ) (r : Pair A) (l : List (Pair A)) → Has k l → Has k (put eq r l)
  unfolding put
  has_put k r [] x' = elim x' [ ]
  has_put k r (q ∷ qs) (first h) = go (eq q.key r.key) refl
    where
      go : (b : Bool) → eq q.key r.key ≡ b → Has k (pick b (r ∷ qs) (q ∷ put eq r qs))
      go true e = first (sym (K.swap q.key r.key k e) ∙ h)
      go false e = first h
  has_put k r (q ∷ qs) (after has) = go (eq q.key r.key) (has_put k r qs has)
    where
      go : (b : Bool) → Has k (put eq r qs) → Has k (pick b (r ∷ qs) (q ∷ put eq r qs))
      go true ih = after has
      go false ih = after ih

  put_through : (p : Pair A) (l rs : List (Pair A)) → Has p.key l → Lacks p.key rs → put eq p (put_all eq l rs) ≡ put_all eq (put eq p l) rs
  unfolding put_all
  put_through p l [] has ended = refl
  put_through p l (r ∷ rs) has (other n lacks) = put_through p (put eq r l) rs (has_put p.key r l has) lacks ∙ ap (λ (x : List (Pair A)). put_all eq x rs) (put_over p r l has n)

  lacks_as : (a b : ℕ) (l : List (Pair A)) → eq a b ≡ true → Lacks a l → Lacks b l
  lacks_as a b [] e ended = ended
  lacks_as a b (p ∷ ps) e (other n r) = other (sym (same_test K p.key a b e) ∙ n) (lacks_as a b ps e r)

  has_as : (a b : ℕ) (l : List (Pair A)) → eq a b ≡ true → Has a l → Has b l
  has_as a b [] e x'' = elim x'' [ ]
  has_as a b (p ∷ ps) e (first h) = first (sym (same_test K p.key a b e) ∙ h)
  has_as a b (p ∷ ps) e (after h) = after (has_as a b ps e h)

  lacks_put : (k : ℕ) (p : Pair A) (l : List (Pair A)) → eq p.key k ≡ false → Lacks k l → Lacks k (put eq p l)
  unfolding put
  lacks_put k p [] n ended = other n ended
  lacks_put k p (q ∷ qs) n (other m lacks) = go (eq q.key p.key) (lacks_put k p qs n lacks)
    where
      go : (b : Bool) → Lacks k (put eq p qs) → Lacks k (pick b (p ∷ qs) (q ∷ put eq p qs))
      go true ih = other n lacks
      go false ih = other m ih

  put_distinct : (p : Pair A) (l : List (Pair A)) → Distinct l → Distinct (put eq p l)
  unfolding put
  put_distinct p [] done = new ended done
  put_distinct p (q ∷ qs) (new lacks d) = go (eq q.key p.key) refl (put_distinct p qs d)
    where
      go : (b : Bool) → eq q.key p.key ≡ b → Distinct (put eq p qs) → Distinct (pick b (p ∷ qs) (q ∷ put eq p qs))
      go true e ih = new (lacks_as q.key p.key qs e lacks) d
      go false e ih = new (lacks_put q.key p qs (K.turn p.key q.key ∙ e) lacks) ih

  pub put_all_distinct : (l xs : List (Pair A)) → Distinct l → Distinct (put_all eq l xs)
  unfolding put_all
  put_all_distinct l [] d = d
  put_all_distinct l (x ∷ xs) d = put_all_distinct (put eq x l) xs (put_distinct x l d)

  -- putting all of a list after one more pair was put into it
  put_all-put : (p : Pair A) (acc l : List (Pair A)) → Distinct l → put_all eq acc (put eq p l) ≡ put eq p (put_all eq acc l)
  unfolding put_all
  put_all-put p acc [] done = unfold put in refl
  put_all-put p acc (q ∷ qs) (new lacks d) = go (eq q.key p.key) refl (put_all-put p (put eq q acc) qs d)
    where
      go : (b : Bool) → eq q.key p.key ≡ b → put_all eq (put eq q acc) (put eq p qs) ≡ put eq p (put_all eq (put eq q acc) qs) →
          put_all eq acc (put eq p (q ∷ qs)) ≡ put eq p (put_all eq (put eq q acc) qs)
      go true e ih =
          rw (put_hit p q qs e)
          (ap (λ (x : List (Pair A)). put_all eq x qs) (sym (put_twice p q acc e)) ∙
          sym (put_through p (put eq q acc) qs (has_as q.key p.key (put eq q acc) e (put_has q acc)) (lacks_as q.key p.key qs e lacks)))
      go false e ih = rw (put_miss p q qs e) ih

  -- replacing pairs in place is associative, for a list whose keys differ
  pub put_all_assoc : (acc l xs : List (Pair A)) → Distinct l → put_all eq acc (put_all eq l xs) ≡ put_all eq (put_all eq acc l) xs
  unfolding put_all
  put_all_assoc acc l [] d = refl
  put_all_assoc acc l (x ∷ xs) d = put_all_assoc acc (put eq x l) xs (put_distinct x l d) ∙ ap (λ (y : List (Pair A)). put_all eq y xs) (put_all-put x acc l d)

  -- one more object, after some were gathered on their own
  pub record Clean (g : Gathered A) : Type 0 where
    pub props : Distinct g.props
    pub patterns : Distinct g.patterns

  -- what bases gave together, as one base
  pub plus : Gathered A → Gathered A → Gathered A
  plus g h = record {
    note = over g.note h.note;
    props = put_all eq g.props h.props;
    patterns = put_all eq g.patterns h.patterns;
    additional = g.additional ⊕ h.additional;
    required = g.required ++ h.required;
    closed = g.closed || h.closed;
    names = g.names ⊕ h.names;
  }

  plus_add : (g h : Gathered A) (o : Object A) → Clean h → plus g (add eq h o) ≡ add eq (plus g h) o
  unfolding plus
  plus_add g h o c = simp (later_assoc, tags_assoc, join_assoc, or_assoc, append_assoc, put_all_assoc g.props h.props o.props c.props, put_all_assoc g.patterns h.patterns o.patterns c.patterns)

  clean_add : (h : Gathered A) (o : Object A) → Clean h → Clean (add eq h o)
  clean_add h o c = record { props = put_all_distinct h.props o.props c.props; patterns = put_all_distinct h.patterns o.patterns c.patterns }

  plus_gather : (g h : Gathered A) (os : List (Object A)) → Clean h → plus g (gather eq h os) ≡ gather eq (plus g h) os
  unfolding gather
  plus_gather g h [] c = refl
  plus_gather g h (o ∷ os) c = plus_gather g (add eq h o) os (clean_add h o c) ∙ ap (λ (x : Gathered A). gather eq x os) (plus_add g h o c)

  clean_start : Clean start
  clean_start = record { props = done; patterns = done }

  plus_start : (g : Gathered A) → plus g start ≡ g
  unfolding plus put_all
  plus_start g = simp (append-nil, or-false, later-none, tags-none)

  add_merged_lem : (g h : Gathered A) → add eq g (derive eq h empty) ≡ plus g h
  unfolding plus put_all
  add_merged_lem g h = simp (append-nil, or-false, counting-naming, later-none)

  pub gather_append : (g : Gathered A) (xs ys : List (Object A)) → gather eq g (xs ++ ys) ≡ gather eq (gather eq g xs) ys
  unfolding gather
  gather_append g [] ys = refl
  gather_append g (x ∷ xs) ys = gather_append (add eq g x) xs ys

  pub add-run : (g : Gathered A) (run : List (Object A)) → add eq g (merge eq run empty) ≡ gather eq g run
  add-run g run = add_merged_lem g (gather eq start run) ∙ (plus_gather g start run clean_start ∙ ap (λ (y : Gathered A). gather eq y run) (plus_start g))

  pub gather_more : (g : Gathered A) (o : Object A) (os : List (Object A)) → gather eq g (o ∷ os) ≡ gather eq (add eq g o) os
  unfolding gather
  gather_more g o os = refl

  -- a run of bases may be merged first, into an empty object
  pub gather-run : (pre run post : List (Object A)) (g : Gathered A) →
      gather eq g (pre ++ (run ++ post)) ≡ gather eq g (pre ++ (merge eq run empty ∷ post))
  gather-run pre run post g =
      simp gather_append
      (ap (λ (y : Gathered A). gather eq y post) (sym (add-run (gather eq g pre) run)) ∙ sym (gather_more (gather eq g pre) (merge eq run empty) post))

  pub merge-run : (pre run post : List (Object A)) (d : Object A) →
      merge eq (pre ++ (run ++ post)) d ≡ merge eq (pre ++ (merge eq run empty ∷ post)) d
  merge-run pre run post d = ap (λ (x : Gathered A). derive eq x d) (gather-run pre run post start)
