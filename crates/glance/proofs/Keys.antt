-- A key that an object has by its number, and an object before its entries. Assumes nothing.
use Prim.Native.Nat.{ℕ, zero, suc, ◌+◌, ◌-◌, ◌<◌, ◌≤◌}
use mathlib.Core.Path.{◌≡◌, refl, sym, ap, ◌∙◌}
use mathlib.Core.Bool.{Bool, true}
use mathlib.Core.List.{List}
use mathlib.Core.Logic.{⊎_elim}
use native.Mathlib.Omega.{arith}
use lib.ListN.{get_or}
use lib.Dec.{eqb}
use borrow.Author.Tests.{eq-eqb, eqb-true}
use Rattle.std.specs.List.{list_any, range_with_len}
use Rattle.lookup.proofs.Find.{found_where}
use Rattle.text.specs.Choice.{true_or_false, le_or_lt, clash, both-holds, both_left, both_right}
use Rattle.text.specs.Text.{text_of, same_text}
use Rattle.text.proofs.Bytes.{same_complete}
use Rattle.layout.specs.Layout.{node_kind, node_a, node_b, properties_first, properties_count, required_first, required_count, object_minimum, object_maximum}
use Rattle.lookup.specs.Find.{last_below, found}
use Rattle.lookup.specs.Lookup.{key_is, entry_key, entry_has_key, last_entry}
use Rattle.schema.specs.Look.{slice}
use Rattle.judge.specs.Judge.{fine, has_key, keys_verdict, object_verdict, required_verdict, size_verdict, before_entries}
use Rattle.objects.proofs.Objects.{any_first, required_begin, required_more, required_end}
use Rattle.glance.specs.Glance.{HasKey, HasRequired, numbered}

-- ---- one node
-- a text has the bytes of the text of its number
pub numbered_key : (pool texts nodes : List ℕ) (t n : ℕ) → numbered nodes t n ≡ true → key_is pool texts nodes t n ≡ true
unfolding numbered key_is same_text
numbered_key pool texts nodes t n h =
    both-holds (both_left (eqb (node_kind nodes n) 4) (eqb (node_a nodes n) t) h)
    (same_complete (text_of pool texts (node_a nodes n)) (text_of pool texts t) (ap (text_of pool texts) (eqb-true (node_a nodes n) t (both_right (eqb (node_kind nodes n) 4) (eqb (node_a nodes n) t) h))))

-- ---- an entry
-- a test that holds at a place is found to hold
found_below : (f : ℕ → Bool) (n k : ℕ) → k < n → f k ≡ true → found (last_below f n) ≡ true
unfolding last_below
found_below f zero k l h = absurd (omega arith)
found_below f (suc n) k l h =
    ⊎_elim (λ t. rw t refl)
    (λ t. rw t (⊎_elim (λ g. let e : k ≡ n = omega arith in clash h (ap f e ∙ t)) (λ g. found_below f n k g h) (le_or_lt n k)))
    (true_or_false (f n))

module _ (nodes links : List ℕ) (n t : ℕ) where
  has_key_lem : (pool texts : List ℕ) (k : ℕ) → k < node_b nodes n → numbered nodes t (entry_key nodes links n k) ≡ true → has_key pool texts nodes links n t ≡ true
  unfolding has_key last_entry entry_has_key
  has_key_lem pool texts k l h =
      found_below (entry_has_key pool texts nodes links n t) (node_b nodes n) k l (numbered_key pool texts nodes t (entry_key nodes links n k) h)

  -- what the code has at hand: an entry, or that one of all passes
  pub key_there : (r : Bool) (k : ℕ) → k < node_b nodes n → numbered nodes t (entry_key nodes links n k) ≡ true → HasKey r nodes links n t
  unfolding HasKey
  key_there r k l h = λ y pool texts. has_key_lem pool texts k l h

  pub key_among : {r : Bool} → r ≡ list_any (λ k. numbered nodes t (entry_key nodes links n k)) (range_with_len 0 (node_b nodes n)) → HasKey r nodes links n t
  unfolding HasKey
  key_among e = λ y pool texts.
      let w = found_where (λ k. numbered nodes t (entry_key nodes links n k)) 0 (node_b nodes n) (sym (any_first (λ k. numbered nodes t (entry_key nodes links n k)) 0 (node_b nodes n)) ∙ sym e ∙ y) in
      has_key_lem pool texts w.0 (omega (arith, w.1)) w.2

-- ---- the required texts
module _ (nodes schemas links : List ℕ) (n s : ℕ) where
  -- what is left to ask is all there is to ask
  abbrev pub Asked : ℕ → ℕ → ℕ → Type 0
  Asked at e i = (pool texts : List ℕ) → required_verdict pool texts nodes links (properties_first schemas s) (properties_count schemas s) n (slice links (at + i) (e - i)) ≡ required_verdict pool texts nodes links (properties_first schemas s) (properties_count schemas s) n (slice links (required_first schemas s) (required_count schemas s))

  pub asked_begin : {at e : ℕ} → at ≡ required_first schemas s → e ≡ required_count schemas s → Asked at e 0
  asked_begin p q = λ pool texts. required_begin pool texts nodes schemas links (properties_first schemas s) (properties_count schemas s) n s p q

  module _ (at e i : ℕ) (inv : Asked at e i) where
    pub asked_more : {t : ℕ} {r : Bool} → i < e → t ≡ get_or links (at + i) 0 → HasKey r nodes links n t → r ≡ true → Asked at e (i + 1)
    unfolding HasKey
    asked_more l p q h = λ pool texts. required_more pool texts nodes links (properties_first schemas s) (properties_count schemas s) n at i e (inv pool texts) l (rw (← p) (q h pool texts))

    pub asked_end : e ≤ i → HasRequired true nodes schemas links n s
    unfolding HasRequired
    asked_end l = λ y pool texts. sym (required_end pool texts nodes links (properties_first schemas s) (properties_count schemas s) n at i e (inv pool texts) l)

-- ---- the object
module _ (pool texts nodes schemas links : List ℕ) (n s : ℕ) where
  pub object_fine : {r : Bool} → node_kind nodes n ≡ 6 → HasRequired r nodes schemas links n s → r ≡ true → size_verdict nodes (object_minimum schemas s) (object_maximum schemas s) n ≡ fine → keys_verdict pool texts nodes links n ≡ fine → before_entries pool texts nodes schemas links s n ≡ fine
  unfolding HasRequired before_entries object_verdict
  object_fine ki re held si keys = rw (eq-eqb (node_kind nodes n) 6 ki, keys, re held pool texts) si
