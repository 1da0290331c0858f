-- What appending a merged object leaves. Assumes nothing.
use Prim.Native.Nat.{ℕ, ◌/◌, ◌<◌}
use mathlib.Core.Path.{◌≡◌, refl, ◌∙◌}
use mathlib.Core.Bool.{Bool}
use mathlib.Core.List.{List, [], ◌∷◌, append_assoc}
use mathlib.Core.Option.{Option, some, none}
use native.Mathlib.Omega.{arith}
use lib.ListN.{length}
use borrow.Author.Tests.{ne_eqb}
use Rattle.text.specs.Choice.{pick}
use Rattle.layout.specs.Layout.{NONE, note_count}
use Rattle.schema.specs.Shape.{Note, Object, Shape, any_of, all_of, object}
use Rattle.schema.specs.Look.{Words, note_at, slice, optional, raw}
use Rattle.merge.specs.Pairs.{pairs_at, flat_pairs}
use Rattle.compilation.specs.Compile.{Result, ok, then, Room, with_notes, with_row, with_links, add_row, join_links, join_row, note_words_of, add_merged}
use Rattle.grouping.specs.Record.{note_of_row, note_in, count}
use Rattle.grouping.specs.Tree.{one, EveryPair, Perhaps, absent, present, PerhapsEvery, presents}
use Rattle.grouping.proofs.Rowed.{note_row_lem}
use Rattle.grouping.proofs.Growing.{Extends, extends_self, extends_more, extends_links, extends_notes, Sound, sound_links, sound_note, Added, links-step, note_step, row_step, last_row, links_read, pairs_read, count_grows, slice_new, pairs-later, perhaps-later}
use Rattle.layout.specs.Rows.{list_row}
use Rattle.grouping.proofs.Adding.{any_at, all_at, later_added, object_at_lem, object_words}

pub data Filled : Option (List ℕ) → Type 0 where
  no_list : Filled none
  a_list : {x : ℕ} {xs : List ℕ} → Filled (some (x ∷ xs))

-- links of a join stand at that place
data Linked (u : Words) (at : ℕ) : Option (List ℕ) → Type 0 where
  l_none : Linked u at none
  l_one : {x : ℕ} → Linked u at (some (x ∷ []))
  l_many : {x y : ℕ} {ys : List ℕ} → ((w : Words) → Extends u w → slice w.links at (length (x ∷ (y ∷ ys))) ≡ x ∷ (y ∷ ys)) → Linked u at (some (x ∷ (y ∷ ys)))

-- a join's word: absent, the one, or a record of all
pub data Joined (u : Words) (shape : List ℕ → Shape ℕ) : Option (List ℕ) → ℕ → Type 0 where
  j_none : Joined u shape none NONE
  j_one : {x : ℕ} → x < count u → Joined u shape (some (x ∷ [])) x
  j_many : {xs : List ℕ} {j : ℕ} → j < count u → raw u j ≡ shape xs → Joined u shape (some xs) j

linked_later : {u w : Words} {at : ℕ} {x : Option (List ℕ)} → Extends u w → Linked u at x → Linked w at x
linked_later e l_none = l_none
linked_later e l_one = l_one
linked_later e (l_many h) = l_many (λ v f. h v (extends_more e f))

pub joined_later : {u w : Words} {shape : List ℕ → Shape ℕ} {x : Option (List ℕ)} {j : ℕ} → Sound u → Extends u w → Joined u shape x j → Joined w shape x j
joined_later z e j_none = j_none
joined_later z e (j_one {x = x} i) = j_one {x = x} (omega (arith, count_grows e))
joined_later {u} {w} z e (j_many {j = j} i r) = j_many {j = j} (omega (arith, count_grows e)) (z.steady j i w e ∙ r)

pub joined_in_lem : {u : Words} {shape : List ℕ → Shape ℕ} {x : Option (List ℕ)} {j : ℕ} → Sound u → Joined u shape x j → Perhaps (λ y. y < count u) (optional j)
joined_in_lem z j_none = absent
joined_in_lem z (j_one {x = x} i) = rw (ne_eqb x NONE (λ e. omega (arith, z.placed.few))) (present i)
joined_in_lem z (j_many {j = j} i r) = rw (ne_eqb j NONE (λ e. omega (arith, z.placed.few))) (present i)

module _ (R : Room) (eq : ℕ → ℕ → Bool) (find : ℕ → Option ℕ) (roomy : R.schemas < NONE) (note-room : R.notes < NONE) where
  record LinkStep {B : Type 0} (x : Option (List ℕ)) (t : Words) (f : ℕ → Words → Result B) (b : B) (t' : Words) : Type 0 where
    at : ℕ
    words : Words
    grown : Extends t words
    sound : Sound words
    linked : Linked words at x
    rest : f at words ≡ ok b t'

  join_links_lem : {B : Type 0} (x : Option (List ℕ)) (t : Words) (f : ℕ → Words → Result B) (b : B) (t' : Words) → Sound t → Filled x → then (join_links R eq find x t) f ≡ ok b t' → LinkStep x t f b t'
  join_links_lem {B = B} (some []) t f b t' z x6 e = elim x6 [ ]
  join_links_lem none t f b t' z no_list e = record { at = 0; words = t; grown = extends_self t; sound = z; linked = l_none; rest = e }
  join_links_lem (some (x ∷ [])) t f b t' z a_list e = record { at = 0; words = t; grown = extends_self t; sound = z; linked = l_one; rest = e }
  join_links_lem (some (x ∷ (y ∷ ys))) t f b t' z a_list e =
      record {
        at = length t.links;
        words = with_links t (x ∷ (y ∷ ys));
        grown = extends_links t (x ∷ (y ∷ ys));
        sound = sound_links {t = t} (x ∷ (y ∷ ys)) z;
        linked = l_many (λ w g. links_read t (x ∷ (y ∷ ys)) g);
        rest = (links-step R eq find (x ∷ (y ∷ ys)) t f b t' e).1;
      }

  record RowStep {B : Type 0} (shape : List ℕ → Shape ℕ) (x : Option (List ℕ)) (t : Words) (f : ℕ → Words → Result B) (b : B) (t' : Words) : Type 0 where
    word : ℕ
    words : Words
    grown : Extends t words
    sound : Sound words
    joined : Joined words shape x word
    rest : f word words ≡ ok b t'

  noteless : (u : Words) → note_in u NONE ≡ none
  unfolding note_at
  noteless u = refl

  join_all : {B : Type 0} (x : Option (List ℕ)) (at : ℕ) (t : Words) (f : ℕ → Words → Result B) (b : B) (t' : Words) → Sound t → Filled x → Linked t at x → PerhapsEvery (λ y. y < count t) x →
      then (join_row R eq find 8 at x t) f ≡ ok b t' → RowStep (all_of none) x t f b t'
  join_all {B = B} (some []) at t f b t' z x9 _ q e = elim x9 [ ]
  join_all none at t f b t' z no_list l_none q e = record { word = NONE; words = t; grown = extends_self t; sound = z; joined = j_none; rest = e }
  join_all (some (x ∷ [])) at t f b t' z a_list l_one (presents (one p q)) e = record { word = x; words = t; grown = extends_self t; sound = z; joined = j_one p; rest = e }
  join_all (some (x ∷ (y ∷ ys))) at t f b t' z a_list (l_many h) (presents q) e =
      let s = row_step R eq find (list_row 8 NONE at (length (x ∷ (y ∷ ys)))) t f b t' e in
      let a = all_at R eq find roomy note-room NONE none (x ∷ (y ∷ ys)) at t z (λ u g. noteless u) h q (omega (arith, s.0)) in
      record { word = count t; words = with_row t (list_row 8 NONE at (length (x ∷ (y ∷ ys)))); grown = a.grown; sound = a.sound; joined = j_many a.new a.is; rest = s.1 }

  join_any : {B : Type 0} (x : Option (List ℕ)) (at : ℕ) (t : Words) (f : ℕ → Words → Result B) (b : B) (t' : Words) → Sound t → Filled x → Linked t at x → PerhapsEvery (λ y. y < count t) x →
      then (join_row R eq find 7 at x t) f ≡ ok b t' → RowStep (any_of none) x t f b t'
  join_any {B = B} (some []) at t f b t' z x9 _ q e = elim x9 [ ]
  join_any none at t f b t' z no_list l_none q e = record { word = NONE; words = t; grown = extends_self t; sound = z; joined = j_none; rest = e }
  join_any (some (x ∷ [])) at t f b t' z a_list l_one (presents (one p q)) e = record { word = x; words = t; grown = extends_self t; sound = z; joined = j_one p; rest = e }
  join_any (some (x ∷ (y ∷ ys))) at t f b t' z a_list (l_many h) (presents q) e =
      let s = row_step R eq find (list_row 7 NONE at (length (x ∷ (y ∷ ys)))) t f b t' e in
      let a = any_at R eq find roomy note-room NONE none (x ∷ (y ∷ ys)) at t z (λ u g. noteless u) h q (omega (arith, s.0)) in
      record { word = count t; words = with_row t (list_row 7 NONE at (length (x ∷ (y ∷ ys)))); grown = a.grown; sound = a.sound; joined = j_many a.new a.is; rest = s.1 }

  -- a new note is read back
  note_read : (t u : Words) (x : Note) → Sound t → Extends (with_notes t (note_words_of x)) u → note_in u (length t.notes / 9) ≡ some x
  unfolding note_of_row
  note_read t u x z e =
      note_row_lem u.notes (length t.notes / 9) ∙
      rw (ne_eqb (length t.notes / 9) NONE (λ q. omega (arith, z.placed.few-notes)), e.notes_are, append_assoc t.notes (note_words_of x) e.notes, z.placed.note-rows, slice_new t.notes (note_words_of x) e.notes)

  -- a merged object stands there, its joins as words
  pub record MergeAdded (ν : Note) (names : Option (List ℕ)) (o : Object ℕ) (t t' : Words) (r : ℕ) : Type 0 where
    pub extra : ℕ
    pub naming : ℕ
    pub added : Added t t' r (object (object_words R eq find roomy note-room (some ν) o.props o.patterns extra o.required o.least o.most (pick o.closed 1 0) naming o.naming))
    pub extra_is : Joined t' (all_of none) o.additional extra
    pub naming_is : Joined t' (any_of none) names naming

  module _ (ν : Note) (names : Option (List ℕ)) (o : Object ℕ) (fa : Filled o.additional) (fn : Filled names) where
    abbrev final_row : ℕ → ℕ → ℕ → ℕ → ℕ → ℕ → List ℕ
    final_row nu p q rq extra naming = 10 ∷ nu ∷ p ∷ length o.props ∷ q ∷ length o.patterns ∷ extra ∷ rq ∷ length o.required ∷ o.least ∷ o.most ∷ pick o.closed 1 0 ∷ naming ∷ o.naming ∷ NONE ∷ 0 ∷ []

    finish : (t t₄ : Words) (r : ℕ) (t' : Words) (nu p q rq : ℕ) → Sound t₄ → Extends t t₄ → ((u : Words) → Extends t₄ u → note_in u nu ≡ some ν) →
        ((u : Words) → Extends t₄ u → pairs_at u.links p (length o.props) ≡ o.props) → ((u : Words) → Extends t₄ u → pairs_at u.links q (length o.patterns) ≡ o.patterns) →
        ((u : Words) → Extends t₄ u → slice u.links rq (length o.required) ≡ o.required) →
        EveryPair (λ x. x < count t₄) o.props → EveryPair (λ x. x < count t₄) o.patterns → PerhapsEvery (λ x. x < count t₄) o.additional → PerhapsEvery (λ x. x < count t₄) names →
        then (join_links R eq find o.additional t₄) (λ a t. then (join_links R eq find names t) (λ n t. then (join_row R eq find 8 a o.additional t) (λ extra t.
        then (join_row R eq find 7 n names t) (λ naming t. add_row R eq find (final_row nu p q rq extra naming) t)))) ≡ ok r t' → MergeAdded ν names o t t' r
    finish t t₄ r t' nu p q rq z on noted propped patterned requires eps eqs ea en e =
        let s₅ = join_links_lem o.additional t₄ _ r t' z fa e in
        let s₆ = join_links_lem names s₅.words _ r t' s₅.sound fn s₅.rest in
        let on₆ : Extends t₄ s₆.words = extends_more s₅.grown s₆.grown in
        let s₇ = join_all o.additional s₅.at s₆.words _ r t' s₆.sound fa (linked_later s₆.grown s₅.linked) (perhaps-later on₆ ea) s₆.rest in
        let on₇ : Extends t₄ s₇.words = extends_more on₆ s₇.grown in
        let s₈ = join_any names s₆.at s₇.words _ r t' s₇.sound fn (linked_later s₇.grown s₆.linked) (perhaps-later on₇ en) s₇.rest in
        let on₈ : Extends t₄ s₈.words = extends_more on₇ s₈.grown in
        let j₇ : Joined s₈.words (all_of none) o.additional s₇.word = joined_later s₇.sound s₈.grown s₇.joined in
        last_row R eq find (λ r t'. MergeAdded ν names o t t' r) (final_row nu p q rq s₇.word s₈.word) s₈.words r t'
        (λ room. let a = object_at_lem R eq find roomy note-room nu p q s₇.word rq (length o.required) o.least o.most (pick o.closed 1 0) s₈.word o.naming (some ν) o.props o.patterns o.required s₈.words s₈.sound
        (λ u f. noted u (extends_more on₈ f)) (λ u f. propped u (extends_more on₈ f)) (λ u f. patterned u (extends_more on₈ f)) (λ u f. requires u (extends_more on₈ f))
        (pairs-later on₈ eps) (pairs-later on₈ eqs) (joined_in_lem s₈.sound j₇) (joined_in_lem s₈.sound s₈.joined) (omega (arith, room)) in
        record {
          extra = s₇.word;
          naming = s₈.word;
          added = later_added R eq find roomy note-room (extends_more on on₈) a;
          extra_is = joined_later s₈.sound a.grown j₇;
          naming_is = joined_later s₈.sound a.grown s₈.joined;
        })
        s₈.rest

    pub merged_law : (t : Words) (r : ℕ) (t' : Words) → Sound t →
        EveryPair (λ x. x < count t) o.props → EveryPair (λ x. x < count t) o.patterns → PerhapsEvery (λ x. x < count t) o.additional → PerhapsEvery (λ x. x < count t) names →
        add_merged R eq find ν names o t ≡ ok r t' → MergeAdded ν names o t t' r
    unfolding add_merged note_count
    merged_law t r t' z eps eqs ea en e =
        let n = note_step R eq find (note_words_of ν) t _ r t' e in
        let t₁ : Words = with_notes t (note_words_of ν) in
        let t₂ : Words = with_links t₁ (flat_pairs o.props) in
        let t₃ : Words = with_links t₂ (flat_pairs o.patterns) in
        let t₄ : Words = with_links t₃ o.required in
        let z₁ : Sound t₁ = sound_note {t = t} (note_words_of ν) z refl (omega (arith, n.0)) in
        let z₂ : Sound t₂ = sound_links {t = t₁} (flat_pairs o.props) z₁ in
        let z₃ : Sound t₃ = sound_links {t = t₂} (flat_pairs o.patterns) z₂ in
        let z₄ : Sound t₄ = sound_links {t = t₃} o.required z₃ in
        let on₃ : Extends t₂ t₃ = extends_links t₂ (flat_pairs o.patterns) in
        let on₄ : Extends t₃ t₄ = extends_links t₃ o.required in
        let after₂ : Extends t₂ t₄ = extends_more on₃ on₄ in
        let after₁ : Extends t₁ t₄ = extends_more (extends_links t₁ (flat_pairs o.props)) after₂ in
        finish t t₄ r t' (length t.notes / 9) (length t₁.links) (length t₂.links) (length t₃.links) z₄ (extends_more (extends_notes t (note_words_of ν)) after₁)
        (λ u f. note_read t u ν z (extends_more after₁ f)) (λ u f. pairs_read t₁ o.props (extends_more after₂ f)) (λ u f. pairs_read t₂ o.patterns (extends_more on₄ f)) (λ u f. links_read t₃ o.required f)
        eps eqs ea en
        (links-step R eq find o.required t₃ _ r t' (links-step R eq find (flat_pairs o.patterns) t₂ _ r t' (links-step R eq find (flat_pairs o.props) t₁ _ r t' n.1).1).1).1
