-- Fields judged one after the other, and what the answer 0 says. Assumes nothing.
use Rattle.std.proofs.Common.{◌≡◌, ℕ, zero, suc, ◌+◌, ◌<◌, ◌≤◌, Bool, true, false, eqb, leb, List, [], ◌∷◌, get_or, sym, refl, ap, ◌∙◌, subst, ⊎_elim, arith, eq-eqb, ne_eqb, eqb-true, le-leb}
use lib.Ieee.{Float, binary64, eq, of_bits, to_bits}
use borrow.Author.Tests.{eqb-false, lt-leb}
use Rattle.text.specs.Choice.{pick_yes, pick_no, le_or_lt, true_or_false, both, both-holds, both_fails_left, both_fails_right}
use Rattle.error.specs.Answers.{NONE}
use Rattle.checker.specs.declared.flat.Flat.{Flat}
use Rattle.stored.specs.Stored.{place_after, word_behind, number_at}
use Rattle.replay.specs.Answer.{pattern_of, low_of, high_of, words_of, pattern_at, used_at, expected_of, judged_of, wrong_in, compared_of}

module _ (expected found wrong : ℕ) where
  pub judged_same : expected ≡ found → wrong ≡ judged_of expected found wrong
  unfolding judged_of
  judged_same h = sym (pick_yes wrong 1 (eq-eqb expected found h))

  pub judged_other : (expected ≡ found → ⊥) → 1 ≡ judged_of expected found wrong
  unfolding judged_of
  judged_other h = sym (pick_no wrong 1 (ne_eqb expected found h))

  -- a field that is judged right is as expected, and none before it was wrong
  judged_zero : judged_of expected found wrong ≡ 0 → (expected ≡ found) × (wrong ≡ 0)
  judged_zero h =
      ⊎_elim
      (λ t. (eqb-true expected found t, judged_same (eqb-true expected found t) ∙ h))
      (λ t. absurd (one (judged_other (eqb-false expected found t) ∙ h)))
      (true_or_false (eqb expected found))
    where
      one : ◌≡◌ {A = ℕ} 1 0 → ⊥
      one e = omega arith

module _ (expected found : ℕ → ℕ) (before : ℕ) where
  pub wrong-none : before ≡ wrong_in expected found 0 before
  unfolding wrong_in
  wrong-none = refl

  step : (i : ℕ) → judged_of (expected i) (found i) (wrong_in expected found i before) ≡ wrong_in expected found (suc i) before
  unfolding wrong_in
  step i = refl

  -- what a turn of a loop gives
  pub wrong_more : (i : ℕ) {e f w r : ℕ} → w ≡ wrong_in expected found i before → e ≡ expected i → f ≡ found i → r ≡ judged_of e f w → r ≡ wrong_in expected found (i + 1) before
  wrong_more i {e} {f} {w} p q s h =
      h
      ∙ ap (λ (x : ℕ). judged_of e f x) p
      ∙ ap (λ (x : ℕ). judged_of x f (wrong_in expected found i before)) q
      ∙ ap (λ (x : ℕ). judged_of (expected i) x (wrong_in expected found i before)) s
      ∙ step i
      ∙ ap (λ (n : ℕ). wrong_in expected found n before) (omega arith)

  pub wrong_all : (i n : ℕ) {w : ℕ} → w ≡ wrong_in expected found i before → i ≡ n → w ≡ wrong_in expected found n before
  wrong_all i n p e = p ∙ ap (λ (k : ℕ). wrong_in expected found k before) e

  -- 0 says that each field is as expected
  pub none-wrong : (n : ℕ) → wrong_in expected found n before ≡ 0 → (k : ℕ) → k < n → expected k ≡ found k
  none-wrong zero h k l = absurd (omega arith)
  none-wrong (suc n) h k l =
      ⊎_elim (λ m. subst (λ (j : ℕ). expected j ≡ found j) (same m) here.0) (λ m. none-wrong n here.1 k m) (le_or_lt n k)
    where
      here : (expected n ≡ found n) × (wrong_in expected found n before ≡ 0)
      here = judged_zero (expected n) (found n) (wrong_in expected found n before) (step n ∙ h)

      same : n ≤ k → n ≡ k
      same m = omega arith

  -- and where each is, and none before was wrong, the answer is 0
  pub all_right : (n : ℕ) → before ≡ 0 → ((k : ℕ) → k < n → expected k ≡ found k) → wrong_in expected found n before ≡ 0
  all_right zero b h = sym wrong-none ∙ b
  all_right (suc n) b h =
      sym (step n)
      ∙ sym (judged_same (expected n) (found n) (wrong_in expected found n before) (h n (omega arith)))
      ∙ all_right n b (λ k l. h k (omega arith))

-- all 18 fields, where what was found are the answer's words
pub compared_all : (input : List ℕ) (at : ℕ) (flat : Flat) (compiled : Bool) (k : ℕ) {found : List ℕ} {w : ℕ} → found ≡ words_of flat → w ≡ wrong_in (expected_of input at compiled) (λ j. get_or found j 0) k 0 → k ≡ 18 → w ≡ compared_of input at flat compiled
unfolding compared_of
compared_all input at flat compiled k {found} e p q =
    wrong_all (expected_of input at compiled) (λ j. get_or found j 0) 0 k 18 p q
    ∙ ap (λ (l : List ℕ). wrong_in (expected_of input at compiled) (λ j. get_or l j 0) 18 0) e

-- an answer found as stored says that every field is
pub answer_found : (input : List ℕ) (at : ℕ) (flat : Flat) (compiled : Bool) → compared_of input at flat compiled ≡ 0 → (k : ℕ) → k < 18 → expected_of input at compiled k ≡ get_or (words_of flat) k 0
unfolding compared_of
answer_found input at flat compiled h k l =
    none-wrong (expected_of input at compiled) (λ j. get_or (words_of flat) j 0) 0 18 h k l

-- a used count, and the words that a field has to have, by its number
module _ (input : List ℕ) (at field : ℕ) where
  pub used_compiled : {r : ℕ} (compiled : Bool) → compiled ≡ true → r ≡ word_behind input at field → r ≡ used_at input at compiled field
  unfolding used_at
  used_compiled compiled h e = e ∙ sym (pick_yes (word_behind input at field) NONE h)

  pub used_none : (compiled : Bool) → compiled ≡ false → NONE ≡ used_at input at compiled field
  unfolding used_at
  used_none compiled h = sym (pick_no (word_behind input at field) NONE h)

  module _ (compiled : Bool) where
    pub expected_used : {r : ℕ} → 11 ≤ field → field ≤ 13 → r ≡ used_at input at compiled field → r ≡ expected_of input at compiled field
    unfolding expected_of
    expected_used a b e = e ∙ sym (pick_yes _ _ (both-holds (le-leb 11 field a) (le-leb field 13 b)))

    no_count : 13 < field → both (leb 11 field) (leb field 13) ≡ false
    no_count h = both_fails_right (leb 11 field) (lt-leb field 13 h)

    outside : (11 ≤ field → field ≤ 13 → ⊥) → both (leb 11 field) (leb field 13) ≡ false
    outside h =
        ⊎_elim
        (λ l. both_fails_right (leb 11 field) (lt-leb field 13 (⊎_elim (λ m. absurd (h l m)) (λ m. m) (le_or_lt field 13))))
        (λ l. both_fails_left (leb field 13) (lt-leb 11 field l))
        (le_or_lt 11 field)

    pub expected_14 : {r p q : ℕ} → field ≡ 14 → p ≡ place_after at 14 → q ≡ pattern_at input p → r ≡ low_of q → r ≡ expected_of input at compiled field
    unfolding expected_of
    expected_14 h p q e =
        e
        ∙ ap low_of (q ∙ ap (pattern_at input) p)
        ∙ sym (pick_no _ _ (no_count (omega arith)) ∙ pick_yes _ _ (eq-eqb field 14 h))

    pub expected_15 : {r p q : ℕ} → field ≡ 15 → p ≡ place_after at 14 → q ≡ pattern_at input p → r ≡ high_of q → r ≡ expected_of input at compiled field
    unfolding expected_of
    expected_15 h p q e =
        e
        ∙ ap high_of (q ∙ ap (pattern_at input) p)
        ∙ sym (pick_no _ _ (no_count (omega arith)) ∙ pick_no _ _ (ne_eqb field 14 (λ z. omega arith)) ∙ pick_yes _ _ (eq-eqb field 15 h))

    pub expected_16 : {r p q : ℕ} → field ≡ 16 → p ≡ place_after at 16 → q ≡ pattern_at input p → r ≡ low_of q → r ≡ expected_of input at compiled field
    unfolding expected_of
    expected_16 h p q e =
        e
        ∙ ap low_of (q ∙ ap (pattern_at input) p)
        ∙ sym (pick_no _ _ (no_count (omega arith)) ∙ pick_no _ _ (ne_eqb field 14 (λ z. omega arith)) ∙ pick_no _ _ (ne_eqb field 15 (λ z. omega arith)) ∙ pick_yes _ _ (eq-eqb field 16 h))

    pub expected_17 : {r p q : ℕ} → field ≡ 17 → p ≡ place_after at 16 → q ≡ pattern_at input p → r ≡ high_of q → r ≡ expected_of input at compiled field
    unfolding expected_of
    expected_17 h p q e =
        e
        ∙ ap high_of (q ∙ ap (pattern_at input) p)
        ∙ sym (pick_no _ _ (no_count (omega arith)) ∙ pick_no _ _ (ne_eqb field 14 (λ z. omega arith)) ∙ pick_no _ _ (ne_eqb field 15 (λ z. omega arith)) ∙ pick_no _ _ (ne_eqb field 16 (λ z. omega arith)) ∙ pick_yes _ _ (eq-eqb field 17 h))

    pub expected_word : {r : ℕ} → (11 ≤ field → field ≤ 13 → ⊥) → (field ≡ 14 → ⊥) → (field ≡ 15 → ⊥) → (field ≡ 16 → ⊥) → (field ≡ 17 → ⊥) → r ≡ word_behind input at field → r ≡ expected_of input at compiled field
    unfolding expected_of
    expected_word n a b c d e =
        e
        ∙ sym (pick_no _ _ (outside n) ∙ pick_no _ _ (ne_eqb field 14 a) ∙ pick_no _ _ (ne_eqb field 15 b) ∙ pick_no _ _ (ne_eqb field 16 c) ∙ pick_no _ _ (ne_eqb field 17 d))

-- an f64's pattern
module _ (x : Float) where
  pub pattern_own : {p : ℕ} → eq x x ≡ true → p ≡ to_bits binary64 x → p ≡ pattern_of x
  unfolding pattern_of
  pattern_own h e = e ∙ sym (pick_yes _ _ h)

  pub pattern_nan : eq x x ≡ false → 0x7ff8_0000_0000_0000 ≡ pattern_of x
  unfolding pattern_of
  pattern_nan h = sym (pick_no _ _ h)

pub pattern_read : (input : List ℕ) (at : ℕ) {n p : ℕ} {x : Float} → n ≡ number_at input at → x ≡ of_bits binary64 n → p ≡ pattern_of x → p ≡ pattern_at input at
unfolding pattern_at
pattern_read input at n x p = p ∙ ap pattern_of (x ∙ ap (of_bits binary64) n)

-- the 18 words
pub words-laid : (flat : Flat) {v b vl vh bl bh : ℕ} → v ≡ pattern_of flat.value → b ≡ pattern_of flat.bound → vl ≡ low_of v → vh ≡ high_of v → bl ≡ low_of b → bh ≡ high_of b → flat.number ∷ flat.table ∷ flat.place ∷ flat.node ∷ flat.schema ∷ flat.hint ∷ flat.detail ∷ flat.a ∷ flat.b ∷ flat.steps ∷ flat.kinds ∷ flat.notes ∷ flat.schemas ∷ flat.links ∷ vl ∷ vh ∷ bl ∷ bh ∷ [] ≡ words_of flat
unfolding words_of
words-laid flat v b vl vh bl bh =
    let c = vl ∙ ap low_of v in
    let d = vh ∙ ap high_of v in
    let e = bl ∙ ap low_of b in
    let f = bh ∙ ap high_of b in
    λ i. flat.number ∷ flat.table ∷ flat.place ∷ flat.node ∷ flat.schema ∷ flat.hint ∷ flat.detail ∷ flat.a ∷ flat.b ∷ flat.steps ∷ flat.kinds ∷ flat.notes ∷ flat.schemas ∷ flat.links ∷ c i ∷ d i ∷ e i ∷ f i ∷ []
