-- What each appended record says. Assumes nothing.
use Prim.Native.Nat.{ℕ, ◌+◌, ◌<◌}
use mathlib.Core.Path.{◌≡◌, refl, ap, ap₂, ◌∙◌}
use mathlib.Core.Bool.{Bool, true, false}
use mathlib.Core.List.{List, [], ◌∷◌}
use mathlib.Core.Option.{Option, some, none}
use native.Mathlib.Omega.{arith}
use lib.ListN.{length, get_or}
use lib.Dec.{eqb, leb}
use Rattle.text.specs.Choice.{pick}
use Rattle.layout.specs.Layout.{NONE}
use Rattle.layout.specs.Rows.{list_row, array_row, object_row}
use Rattle.schema.specs.Shape.{Note, Pair, Own, nameless, named, Object, Shape, any_of, all_of, array, object}
use Rattle.schema.specs.Look.{Words, own_words, slice, optional}
use Rattle.merge.specs.Pairs.{pairs_at, flat_pairs}
use Rattle.compilation.specs.Compile.{Result, ok, refuse, then, Room, with_row, with_links, add_row, add_links, add_list, add_object}
use Rattle.grouping.specs.Record.{row_at, note_in, array_of, object_of, shape_of, bases_of, count}
use Rattle.grouping.specs.Tree.{Every, nil, one, EveryPair, Perhaps, present, PerhapsEvery, absents, presents, NamesIn, in_none, in_named, in_any, in_all, in_array, in_object}
use Rattle.grouping.proofs.Growing.{Extends, extends_more, extends_links, Sound, sound_links, Added, sound_row, links-step, last_row, links_read, pairs_read}

pub ask_parts : {P : ℕ → Type 0} (a : ℕ) (b : Bool) → Perhaps P (pick b none (some a)) → PerhapsEvery P (pick b none (some (a ∷ [])))
ask_parts a true q = absents
ask_parts a false (present q) = presents (one q nil)

pub ask_names : {P : ℕ → Type 0} (a : ℕ) (b : Bool) → Perhaps P (pick b none (some a)) → NamesIn P (pick b nameless (named (a ∷ [])))
ask_names a true q = in_none
ask_names a false (present q) = in_named (one q nil)

any_row : (u : Words) (note at n : ℕ) → shape_of u (list_row 7 note at n) ≡ any_of (note_in u note) (slice u.links at n)
unfolding shape_of
any_row u note at n = refl

all_row : (u : Words) (note at n : ℕ) → shape_of u (list_row 8 note at n) ≡ all_of (note_in u note) (slice u.links at n)
unfolding shape_of
all_row u note at n = refl

list_bases : (u : Words) (kind note at n : ℕ) → bases_of u (list_row kind note at n) ≡ some []
unfolding bases_of slice
list_bases u kind note at n = refl

list_long : (kind note at n : ℕ) → length (list_row kind note at n) ≡ 16
list_long kind note at n = refl

module _ (R : Room) (eq : ℕ → ℕ → Bool) (find : ℕ → Option ℕ) (roomy : R.schemas < NONE) (note-room : R.notes < NONE) where
  -- the record of a list whose links stand already
  pub any_at : (note : ℕ) (ν : Option Note) (xs : List ℕ) (at : ℕ) (t : Words) → Sound t → ((u : Words) → Extends t u → note_in u note ≡ ν) →
      ((u : Words) → Extends t u → slice u.links at (length xs) ≡ xs) → Every (λ x. x < count t) xs → count t + 1 < NONE →
      Added t (with_row t (list_row 7 note at (length xs))) (count t) (any_of ν xs)
  any_at note ν xs at t z noted linked q few =
      sound_row (list_row 7 note at (length xs)) (any_of ν xs) (some []) z (list_long 7 note at (length xs))
      (λ u e. any_row u note at (length xs) ∙ ap₂ (λ (a : Option Note) (b : List ℕ). any_of a b) (noted u e) (linked u e))
      (λ u e. list_bases u 7 note at (length xs)) few (in_any q) (presents nil)

  pub all_at : (note : ℕ) (ν : Option Note) (xs : List ℕ) (at : ℕ) (t : Words) → Sound t → ((u : Words) → Extends t u → note_in u note ≡ ν) →
      ((u : Words) → Extends t u → slice u.links at (length xs) ≡ xs) → Every (λ x. x < count t) xs → count t + 1 < NONE →
      Added t (with_row t (list_row 8 note at (length xs))) (count t) (all_of ν xs)
  all_at note ν xs at t z noted linked q few =
      sound_row (list_row 8 note at (length xs)) (all_of ν xs) (some []) z (list_long 8 note at (length xs))
      (λ u e. all_row u note at (length xs) ∙ ap₂ (λ (a : Option Note) (b : List ℕ). all_of a b) (noted u e) (linked u e))
      (λ u e. list_bases u 8 note at (length xs)) few (in_all q) (presents nil)

  pub later_added : {t u w : Words} {r : ℕ} {sh : Shape ℕ} → Extends t u → Added u w r sh → Added t w r sh
  later_added e a = record { grown = extends_more e a.grown; sound = a.sound; new = a.new; is = a.is }

  pub any_law : (note : ℕ) (ν : Option Note) (xs : List ℕ) (t : Words) (r : ℕ) (t' : Words) → Sound t → ((u : Words) → Extends t u → note_in u note ≡ ν) →
      Every (λ x. x < count t) xs → add_list R eq find 7 note xs t ≡ ok r t' → Added t t' r (any_of ν xs)
  unfolding add_list
  any_law note ν xs t r t' z noted q e =
      let on : Extends t (with_links t xs) = extends_links t xs in
      last_row R eq find (λ r t'. Added t t' r (any_of ν xs)) _ (with_links t xs) r t'
      (λ room. later_added on (any_at note ν xs (length t.links) (with_links t xs) (sound_links xs z) (λ u f. noted u (extends_more on f)) (λ u f. links_read t xs f) q (omega (arith, room))))
      (links-step R eq find xs t _ r t' e).1

  pub all_law : (note : ℕ) (ν : Option Note) (xs : List ℕ) (t : Words) (r : ℕ) (t' : Words) → Sound t → ((u : Words) → Extends t u → note_in u note ≡ ν) →
      Every (λ x. x < count t) xs → add_list R eq find 8 note xs t ≡ ok r t' → Added t t' r (all_of ν xs)
  unfolding add_list
  all_law note ν xs t r t' z noted q e =
      let on : Extends t (with_links t xs) = extends_links t xs in
      last_row R eq find (λ r t'. Added t t' r (all_of ν xs)) _ (with_links t xs) r t'
      (λ room. later_added on (all_at note ν xs (length t.links) (with_links t xs) (sound_links xs z) (λ u f. noted u (extends_more on f)) (λ u f. links_read t xs f) q (omega (arith, room))))
      (links-step R eq find xs t _ r t' e).1

  -- an array's words, its items new
  abbrev pub array_words : List ℕ → ℕ → List ℕ
  array_words row y = array_row (get_or row 1 0) y (get_or row 3 0) (get_or row 4 0) (get_or row 5 0)

  pub array_law : (row : List ℕ) (w : Own) (y : ℕ) (t : Words) (r : ℕ) (t' : Words) → Sound t → ((u : Words) → Extends t u → array_of u row ≡ w) →
      Perhaps (λ x. x < count t) (optional y) → add_row R eq find (array_words row y) t ≡ ok r t' → Added t t' r (array w (optional y))
  array_law row w y t r t' z owned q e =
      last_row R eq find (λ r t'. Added t t' r (array w (optional y))) _ t r t'
      (λ room. sound_row (array_words row y) (array w (optional y)) (some []) z (long row y)
      (λ u f. reads u row y ∙ ap (λ (a : Own). array a (optional y)) (owned u f)) (λ u f. based u row y) (omega (arith, room)) (in_array q) (presents nil)) e
    where
      long : (r : List ℕ) (y : ℕ) → length (array_words r y) ≡ 16
      long r y = refl

      reads : (u : Words) (r : List ℕ) (y : ℕ) → shape_of u (array_words r y) ≡ array (array_of u r) (optional y)
      reads u r y = unfold shape_of array_of slice in refl

      based : (u : Words) (r : List ℕ) (y : ℕ) → bases_of u (array_words r y) ≡ some []
      based u r y = unfold bases_of slice in refl

  -- a plain object appended from its row
  unfoldable pub row_object : List ℕ → List (Pair ℕ) → List (Pair ℕ) → ℕ → ℕ → Words → Result ℕ
  row_object r ps qs additional names t =
      then (add_links R eq find (flat_pairs ps) t) (λ at t.
      then (add_links R eq find (flat_pairs qs) t) (λ on t.
      add_row R eq find (object_row (get_or r 1 0) at (length ps) on (length qs) additional (get_or r 7 0) (get_or r 8 0) (get_or r 9 0) (get_or r 10 0) (get_or r 11 0) names (get_or r 13 0)) t))

  then-links : {B : Type 0} (x : List ℕ) (t : Words) (f g : ℕ → Words → Result B) → f (length t.links) (with_links t x) ≡ g (length t.links) (with_links t x) →
      then (add_links R eq find x t) f ≡ then (add_links R eq find x t) g
  unfolding add_links
  then-links x t f g e = at (leb (length t.links + length x) R.links)
    where
      at : (c : Bool) → then (pick c (ok (length t.links) (with_links t x)) (refuse 33)) f ≡ then (pick c (ok (length t.links) (with_links t x)) (refuse 33)) g
      at true = e
      at false = refl

  pub row_object_lem : (s : ℕ) (ps qs : List (Pair ℕ)) (a n : ℕ) (t : Words) → add_object R eq find s ps qs a n t ≡ row_object (row_at t s) ps qs a n t
  unfolding add_object row_object row_at own_words
  row_object_lem s ps qs a n t = then-links (flat_pairs ps) t _ _ (then-links (flat_pairs qs) (with_links t (flat_pairs ps)) _ _ refl)

  -- what an object's row of words says, where its lists are read as given
  pub object_at_lem : (note p q a r nr least most closed names naming : ℕ) (ν : Option Note) (ps qs : List (Pair ℕ)) (req : List ℕ) (t : Words) → Sound t →
      ((u : Words) → Extends t u → note_in u note ≡ ν) → ((u : Words) → Extends t u → pairs_at u.links p (length ps) ≡ ps) →
      ((u : Words) → Extends t u → pairs_at u.links q (length qs) ≡ qs) → ((u : Words) → Extends t u → slice u.links r nr ≡ req) →
      EveryPair (λ x. x < count t) ps → EveryPair (λ x. x < count t) qs → Perhaps (λ x. x < count t) (optional a) → Perhaps (λ x. x < count t) (optional names) →
      count t + 1 < NONE →
      Added t (with_row t (object_row note p (length ps) q (length qs) a r nr least most closed names naming)) (count t)
      (object (record {
        note = ν;
        props = ps;
        patterns = qs;
        additional = pick (eqb a NONE) none (some (a ∷ []));
        required = req;
        least = least;
        most = most;
        closed = eqb closed 1;
        names = pick (eqb names NONE) nameless (named (names ∷ []));
        naming = naming;
      }))
  object_at_lem note p q a r nr least most closed names naming ν ps qs req t z noted propped patterned requires eps eqs ea en few =
      sound_row _ _ none z refl
      (λ u e. unfold shape_of object_of in (λ i. object (record {
        note = noted u e i;
        props = propped u e i;
        patterns = patterned u e i;
        additional = pick (eqb a NONE) none (some (a ∷ []));
        required = requires u e i;
        least = least;
        most = most;
        closed = eqb closed 1;
        names = pick (eqb names NONE) nameless (named (names ∷ []));
        naming = naming;
      })))
      (λ u e. unfold bases_of in refl) few
      (in_object (record { props = eps; patterns = eqs; additional = ask_parts a (eqb a NONE) ea; names = ask_names names (eqb names NONE) en })) absents

  -- an object's fields as its words give them
  abbrev pub object_words : Option Note → List (Pair ℕ) → List (Pair ℕ) → ℕ → List ℕ → ℕ → ℕ → ℕ → ℕ → ℕ → Object ℕ
  object_words ν ps qs a req least most closed names naming = record { note = ν; props = ps; patterns = qs; additional = pick (eqb a NONE) none (some (a ∷ [])); required = req; least = least; most = most; closed = eqb closed 1; names = pick (eqb names NONE) nameless (named (names ∷ [])); naming = naming }

  pub object_law : (row : List ℕ) (ν : Option Note) (req : List ℕ) (ps qs : List (Pair ℕ)) (a n : ℕ) (t : Words) (r : ℕ) (t' : Words) → Sound t →
      ((u : Words) → Extends t u → note_in u (get_or row 1 0) ≡ ν) → ((u : Words) → Extends t u → slice u.links (get_or row 7 0) (get_or row 8 0) ≡ req) →
      EveryPair (λ x. x < count t) ps → EveryPair (λ x. x < count t) qs → Perhaps (λ x. x < count t) (optional a) → Perhaps (λ x. x < count t) (optional n) →
      row_object row ps qs a n t ≡ ok r t' → Added t t' r (object (object_words ν ps qs a req (get_or row 9 0) (get_or row 10 0) (get_or row 11 0) n (get_or row 13 0)))
  unfolding row_object
  object_law row ν req ps qs a n t r t' z noted requires eps eqs ea en e =
      let t₁ : Words = with_links t (flat_pairs ps) in
      let t₂ : Words = with_links t₁ (flat_pairs qs) in
      let on₁ : Extends t t₁ = extends_links t (flat_pairs ps) in
      let on₂ : Extends t₁ t₂ = extends_links t₁ (flat_pairs qs) in
      let on : Extends t t₂ = extends_more on₁ on₂ in
      last_row R eq find (λ r t'. Added t t' r (object (object_words ν ps qs a req (get_or row 9 0) (get_or row 10 0) (get_or row 11 0) n (get_or row 13 0)))) _ t₂ r t'
      (λ room. later_added on (object_at_lem (get_or row 1 0) (length t.links) (length t₁.links) a (get_or row 7 0) (get_or row 8 0) (get_or row 9 0) (get_or row 10 0) (get_or row 11 0) n (get_or row 13 0) ν ps qs req t₂
      (sound_links {t = t₁} (flat_pairs qs) (sound_links {t = t} (flat_pairs ps) z)) (λ u f. noted u (extends_more on f)) (λ u f. pairs_read t ps (extends_more on₂ f)) (λ u f. pairs_read t₁ qs f)
      (λ u f. requires u (extends_more on f)) eps eqs ea en (omega (arith, room))))
      (links-step R eq find (flat_pairs qs) t₁ _ r t' (links-step R eq find (flat_pairs ps) t _ r t' e).1).1
