-- A group's elements, one after the other: each branch of the code against its definition. Assumes nothing.
use Prim.Native.Nat.{ℕ, suc, ◌+◌, ◌/◌, ◌%◌}
use mathlib.Core.Path.{◌≡◌, refl, sym, ap, ◌∙◌}
use mathlib.Core.List.{List}
use native.Mathlib.Omega.{arith}
use lib.ListN.{set, replicate}
use borrow.Author.Tests.{eq-eqb, ne_eqb}
use Rattle.text.specs.Choice.{pick_yes, pick_no}
use Rattle.stored.specs.Stored.{place_after, word_behind, number_of, number_at}
use Rattle.stored.specs.Group.{octet_of, words_for, head_at, bytes_unpacked, numbers_unpacked, unpacked, unpacked_of, element_of, byte_element_of, number_element_of, slice_unpacked, words_unpacked, Unpacking, unpacking, table_unpacked, tables_unpacked, tables_at}
use Rattle.stored.specs.declared.group.Extent.{Extent}
use Rattle.stored.proofs.Places.{place_near}

module _ (word k : ℕ) where
  pub octet_first : k ≡ 0 → word % 256 ≡ octet_of word k
  unfolding octet_of
  octet_first e = sym (pick_yes _ _ (eq-eqb k 0 e))

  pub octet_second : k ≡ 1 → word / 256 % 256 ≡ octet_of word k
  unfolding octet_of
  octet_second e = sym (pick_no _ _ (ne_eqb k 0 (λ q. omega arith)) ∙ pick_yes _ _ (eq-eqb k 1 e))

  pub octet_third : k ≡ 2 → word / 65536 % 256 ≡ octet_of word k
  unfolding octet_of
  octet_third e =
      sym (pick_no _ _ (ne_eqb k 0 (λ q. omega arith)) ∙ pick_no _ _ (ne_eqb k 1 (λ q. omega arith)) ∙ pick_yes _ _ (eq-eqb k 2 e))

  pub octet_last : (k ≡ 0 → ⊥) → (k ≡ 1 → ⊥) → (k ≡ 2 → ⊥) → word / 16777216 % 256 ≡ octet_of word k
  unfolding octet_of
  octet_last a b c = sym (pick_no _ _ (ne_eqb k 0 a) ∙ pick_no _ _ (ne_eqb k 1 b) ∙ pick_no _ _ (ne_eqb k 2 c))

-- the three words of a head
pub head_read : (input : List ℕ) (at : ℕ) {a b c : ℕ} → a ≡ word_behind input at 0 → b ≡ word_behind input at 1 → c ≡ word_behind input at 2 → ◌≡◌ {A = Extent} (record { length = a; kept = b; fill = c }) (head_at input at)
unfolding head_at
head_read input at p q r = λ i. record { length = p i; kept = q i; fill = r i }

-- from the front on, a place is its number
front_place : ◌≡◌ {A = ℕ → ℕ} (place_after 0) (λ j. j)
front_place = λ k j. (near j) k
  where
    near : (j : ℕ) → place_after 0 j ≡ j
    near j = let e : 0 + j ≡ j = omega arith in place_near 0 j (omega arith) ∙ e

-- a slice, from what the code stores: words, bytes and numbers
module _ (input : List ℕ) (from : ℕ) (head : Extent) (into : List ℕ) where
  pub words_slice : (start : ℕ) → slice_unpacked head (word_behind input from) head.fill (place_after start) into ≡ words_unpacked input from head start into
  unfolding words_unpacked element_of
  words_slice start = refl

  pub bytes_slice : {fill : ℕ} → fill ≡ octet_of head.fill 0 → slice_unpacked head (λ i. octet_of (word_behind input from (i / 4)) (i % 4)) fill (place_after 0) into ≡ bytes_unpacked input from head into
  unfolding bytes_unpacked byte_element_of
  bytes_slice e = λ k. slice_unpacked head (λ i. octet_of (word_behind input from (i / 4)) (i % 4)) (e k) (front_place k) into

  pub numbers_slice : {fill : ℕ} → fill ≡ number_of head.fill 0 → slice_unpacked head (λ i. number_at input (place_after (place_after from i) i)) fill (place_after 0) into ≡ numbers_unpacked input from head into
  unfolding numbers_unpacked number_element_of
  numbers_slice e = λ k. slice_unpacked head (λ i. number_at input (place_after (place_after from i) i)) (e k) (front_place k) into

-- one more table: a turn of the loop over the seven
module _ (input : List ℕ) where
  table_turn : (k heads at end : ℕ) (ends words : List ℕ) {heads' at' end' : ℕ} {words' : List ℕ} {head : Extent} → head ≡ head_at input heads → words' ≡ words_unpacked input at head end words → end' ≡ place_after end head.length → at' ≡ place_after at head.kept → heads' ≡ place_after heads 3 → unpacking heads' at' end' (set ends (k + 1) end') words' ≡ table_unpacked input (unpacking heads at end ends words) k
  unfolding table_unpacked
  table_turn k heads at end ends words h w e a s =
      let ended = e ∙ ap (λ (x : Extent). place_after end x.length) h in
      let placed = a ∙ ap (λ (x : Extent). place_after at x.kept) h in
      let written = w ∙ ap (λ (x : Extent). words_unpacked input at x end words) h in
      λ i. record { heads = s i; at = placed i; end = ended i; ends = set ends (k + 1) (ended i); words = written i }

  next : (s : Unpacking) (k : ℕ) → table_unpacked input (tables_unpacked input s k) k ≡ tables_unpacked input s (suc k)
  unfolding tables_unpacked
  next s k = refl

  pub tables-none : (s : Unpacking) → s ≡ tables_unpacked input s 0
  unfolding tables_unpacked
  tables-none s = refl

  pub tables_more : (s : Unpacking) (k : ℕ) {heads at end heads' at' end' : ℕ} {ends words words' : List ℕ} {head : Extent} → unpacking heads at end ends words ≡ tables_unpacked input s k → head ≡ head_at input heads → words' ≡ words_unpacked input at head end words → end' ≡ place_after end head.length → at' ≡ place_after at head.kept → heads' ≡ place_after heads 3 → unpacking heads' at' end' (set ends (k + 1) end') words' ≡ tables_unpacked input s (k + 1)
  tables_more s k {heads} {at} {end} {ends = ends} {words} t h w e a p =
      table_turn k heads at end ends words h w e a p
      ∙ ap (λ (x : Unpacking). table_unpacked input x k) t
      ∙ next s k
      ∙ ap (tables_unpacked input s) (omega arith)

  pub tables_all : (heads from k : ℕ) (words : List ℕ) {s : Unpacking} → s ≡ tables_unpacked input (unpacking heads from 0 (replicate 8 0) words) k → k ≡ 7 → s ≡ tables_at input heads from words
  unfolding tables_at
  tables_all heads from k words t e = t ∙ ap (tables_unpacked input (unpacking heads from 0 (replicate 8 0) words)) e

-- a whole group, from what each call of the code gave
pub group-unpacked : (input : List ℕ) (at : ℕ) (words pool numbers : List ℕ) {bytes last : Extent} {last_at from headsAt kept tablesFrom byte_count numberCount behind after tablesEnd : ℕ} {ends words' pool' numbers' : List ℕ} → bytes ≡ head_at input at → last_at ≡ place_after at 24 → last ≡ head_at input last_at → from ≡ place_after at 27 → pool' ≡ bytes_unpacked input from bytes pool → headsAt ≡ place_after at 3 → kept ≡ words_for bytes.kept → tablesFrom ≡ place_after from kept → ends ≡ (tables_at input headsAt tablesFrom words).ends → tablesEnd ≡ (tables_at input headsAt tablesFrom words).at → words' ≡ (tables_at input headsAt tablesFrom words).words → numbers' ≡ numbers_unpacked input tablesEnd last numbers → byte_count ≡ bytes.length → numberCount ≡ last.length → behind ≡ place_after tablesEnd last.kept → after ≡ place_after behind last.kept → unpacked (record { ends = ends; bytes = byte_count; numbers = numberCount; after = after }) words' pool' numbers' ≡ unpacked_of input at words pool numbers
unfolding unpacked_of
group-unpacked input at words pool numbers {bytes} {last} {last_at} {from} {headsAt} {kept} {tablesFrom} {tablesEnd = tablesEnd} hb la hl fr pl ha ke tf te ta tw nu bc nc be af =
    let head : last ≡ head_at input (place_after at 24) = hl ∙ ap (head_at input) la in
    let start : tablesFrom ≡ place_after (place_after at 27) (words_for (head_at input at).kept) =
    tf ∙ ap (λ (x : ℕ). place_after x kept) fr ∙ ap (place_after (place_after at 27)) (ke ∙ ap (λ (x : Extent). words_for x.kept) hb) in
    let all : tables_at input headsAt tablesFrom words ≡ tables_at input (place_after at 3) (place_after (place_after at 27) (words_for (head_at input at).kept)) words =
    ap (λ (x : ℕ). tables_at input x tablesFrom words) ha ∙ ap (λ (x : ℕ). tables_at input (place_after at 3) x words) start in
    let ended : tablesEnd ≡ (tables_at input (place_after at 3) (place_after (place_after at 27) (words_for (head_at input at).kept)) words).at = ta ∙ ap (λ (s : Unpacking). s.at) all in
    let behindAll = af ∙ ap (λ (x : ℕ). place_after x last.kept) (be ∙ ap (λ (x : ℕ). place_after x last.kept) ended) ∙ ap (λ (x : Extent). place_after (place_after (tables_at input (place_after at 3) (place_after (place_after at 27) (words_for (head_at input at).kept)) words).at x.kept) x.kept) head in
    let endsAll = te ∙ ap (λ (s : Unpacking). s.ends) all in
    let wordsAll = tw ∙ ap (λ (s : Unpacking). s.words) all in
    let poolAll = pl ∙ ap (λ (x : ℕ). bytes_unpacked input x bytes pool) fr ∙ ap (λ (x : Extent). bytes_unpacked input (place_after at 27) x pool) hb in
    let numbersAll = nu ∙ ap (λ (x : ℕ). numbers_unpacked input x last numbers) ended ∙ ap (λ (x : Extent). numbers_unpacked input (tables_at input (place_after at 3) (place_after (place_after at 27) (words_for (head_at input at).kept)) words).at x numbers) head in
    let bytesAll = bc ∙ ap (λ (x : Extent). x.length) hb in
    let countAll = nc ∙ ap (λ (x : Extent). x.length) head in
    λ i. record { group = record { ends = endsAll i; bytes = bytesAll i; numbers = countAll i; after = behindAll i }; words = wordsAll i; pool = poolAll i; numbers = numbersAll i }
