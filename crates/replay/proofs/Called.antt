-- What a call is lent and what it gives, from what the reads of its words gave. Assumes nothing.
use Rattle.std.proofs.Common.{◌≡◌, ℕ, ◌+◌, ◌-◌, ◌%◌, ◌^◌, ◌<◌, ◌≤◌, Bool, true, false, eqb, leb, ◌⊎◌, List, length, take, sym, refl, ap, ◌∙◌, inl, inr, ⊎_elim, arith, length-take-le, le-ltb, lt-ltb, eq-eqb, ne_eqb, le-leb}
use borrow.Author.Tests.{lt-leb}
use mir.Val.{bool_byte}
use Rattle.text.specs.Choice.{pick, pick_yes, pick_no, le_or_lt, both-holds, both_fails_left, both_fails_right, either_left, either_right, either_fails}
use Rattle.text.specs.Text.{part_of}
use Rattle.layout.specs.Layout.{Tables, tables}
use Rattle.error.specs.declared.Mode.{Mode}
use Rattle.error.specs.declared.Mode.TheVariants.{Source, Standard}
use Rattle.number.specs.declared.equal.Equality.{Equality}
use Rattle.number.specs.declared.equal.Equality.TheVariants.{Enum, Unique}
use Rattle.json_equality.specs.Value.{equal_nodes_of}
use Rattle.navigate.specs.Navigate.{navigate_of}
use Rattle.validator.specs.Validate.{validate_of}
use Rattle.checker.specs.Flat.{flat_of}
use Rattle.checker.specs.Validated.{Left, left_of}
use Rattle.checker.specs.declared.flat.Flat.{Flat}
use Rattle.stored.specs.declared.group.Group.{Group}
use Rattle.stored.specs.Stored.{place_after, word_behind, between}
use Rattle.replay.specs.declared.answer.Met.{Met}
use Rattle.replay.specs.Answer.{judged_of, compared_of}
use Rattle.replay.specs.Calls.{met, table_of, tables_of, group_tables, navigated_of, path_at, answer_behind, navigation_of, equal_of, equality_of, mode_of, validated_of, path_word, path_wrong, step_count, kind_count, steps_at, kinds_at, left_met, within_of, validation_of}

module _ (ends words pool numbers : List ℕ) where
  pub tables_same : {texts nodes notes schemas registry patterns links : List ℕ} → texts ≡ table_of words ends 0 → nodes ≡ table_of words ends 1 → notes ≡ table_of words ends 2 → schemas ≡ table_of words ends 3 → registry ≡ table_of words ends 4 → patterns ≡ table_of words ends 5 → links ≡ table_of words ends 6 → tables pool texts nodes notes schemas registry patterns links numbers ≡ tables_of ends words pool numbers
  unfolding tables_of
  tables_same t n o s r p l =
      λ i. record { pool = pool; texts = t i; nodes = n i; notes = o i; schemas = s i; registry = r i; patterns = p i; links = l i; numbers = numbers }

  pub group_same : (group : Group) (bytes patterns : List ℕ) → group.ends ≡ ends → pool ≡ part_of bytes 0 group.bytes → numbers ≡ between patterns 0 group.numbers → tables_of ends words pool numbers ≡ group_tables group words bytes patterns
  unfolding group_tables
  group_same group bytes patterns e p n =
      ap (λ (x : List ℕ). tables_of x words pool numbers) (sym e)
      ∙ ap (λ (x : List ℕ). tables_of group.ends words x numbers) p
      ∙ ap (λ (x : List ℕ). tables_of group.ends words (part_of bytes 0 group.bytes) x) n

module _ (input : List ℕ) (at : ℕ) (T : Tables) where
  pub navigated : (path : List ℕ) {lent : Tables} {node key : ℕ} {r : Flat} → lent ≡ T → node ≡ word_behind input at 1 → key ≡ word_behind input at 2 → r ≡ flat_of (navigate_of lent node path (eqb key 1)) → r ≡ navigated_of input at path T
  unfolding navigated_of
  navigated path {lent} {node} {key} t n k h =
      h
      ∙ ap (λ (x : Tables). flat_of (navigate_of x node path (eqb key 1))) t
      ∙ ap (λ (x : ℕ). flat_of (navigate_of T x path (eqb key 1))) n
      ∙ ap (λ (x : ℕ). flat_of (navigate_of T (word_behind input at 1) path (eqb x 1))) k

  pub validated : (i k : ℕ) {lent : Tables} {mode : Mode} {node schema : ℕ} {r : Left} → lent ≡ T → mode ≡ mode_of (word_behind input at 1) → node ≡ word_behind input at 2 → schema ≡ word_behind input at 3 → r ≡ left_of (validate_of lent mode node schema i k) → r ≡ validated_of input at T i k
  unfolding validated_of
  validated i k {lent} {mode} {node} {schema} t m n s h =
      h
      ∙ ap (λ (x : Tables). left_of (validate_of x mode node schema i k)) t
      ∙ ap (λ (x : Mode). left_of (validate_of T x node schema i k)) m
      ∙ ap (λ (x : ℕ). left_of (validate_of T (mode_of (word_behind input at 1)) x schema i k)) n
      ∙ ap (λ (x : ℕ). left_of (validate_of T (mode_of (word_behind input at 1)) (word_behind input at 2) x i k)) s

-- a test as a word
bool_word : (b : Bool) → bool_byte b ≡ pick b 1 0
bool_word true = refl
bool_word false = refl

-- whether two nodes are equal, over the tables lent
pub equal_word : (way : Equality) (input : List ℕ) (at : ℕ) (T : Tables) {a b : ℕ} {r : Bool} → a ≡ word_behind input at 1 → b ≡ word_behind input at 2 → r ≡ equal_nodes_of way T.pool T.texts T.nodes T.links T.numbers a b → bool_byte r ≡ equal_of way input at T
unfolding equal_of
equal_word way input at T p q h = bool_word _ ∙ rw (h, p, q)

-- a mode by its number
pub mode-none : (n : ℕ) → n ≡ 0 → Source ≡ mode_of n
unfolding mode_of
mode-none n e = sym (pick_yes Source Standard (either_left (eqb n 1) (eq-eqb n 0 e)))

pub mode-source : (n : ℕ) → n ≡ 1 → Source ≡ mode_of n
unfolding mode_of
mode-source n e = sym (pick_yes Source Standard (either_right (eqb n 0) (eq-eqb n 1 e)))

pub mode_standard : (n : ℕ) → (n ≡ 0 → ⊥) → (n ≡ 1 → ⊥) → Standard ≡ mode_of n
unfolding mode_of
mode_standard n a b = sym (pick_no Source Standard (either_fails (ne_eqb n 0 a) (ne_eqb n 1 b)))

-- a word of a path, and one behind it
pub path_in : (input : List ℕ) (at count k : ℕ) → k < count → word_behind input at k ≡ path_word input at count k
unfolding path_word
path_in input at count k h = sym (pick_yes (word_behind input at k) 0 (lt-ltb k count h))

pub path_past : (input : List ℕ) (at count k : ℕ) → count ≤ k → 0 ≡ path_word input at count k
unfolding path_word
path_past input at count k h = sym (pick_no (word_behind input at k) 0 (le-ltb k count h))

-- buffers that are long enough, and buffers that are not
module _ (input : List ℕ) (at : ℕ) (T : Tables) (i k : ℕ) where
  pub within_yes : word_behind input at 4 ≤ i → word_behind input at 5 ≤ k → left_met input at (validated_of input at T (word_behind input at 4) (word_behind input at 5)) ≡ within_of input at T i k
  unfolding within_of
  within_yes p q =
      sym (pick_yes (left_met input at (validated_of input at T (word_behind input at 4) (word_behind input at 5))) (met 1 4294967297) (both-holds (le-leb (word_behind input at 4) i p) (le-leb (word_behind input at 5) k q)))

  pub within_no : (i < word_behind input at 4) ⊎ (k < word_behind input at 5) → met 1 4294967297 ≡ within_of input at T i k
  unfolding within_of
  within_no h =
      sym (pick_no (left_met input at (validated_of input at T (word_behind input at 4) (word_behind input at 5))) (met 1 4294967297)
      (⊎_elim (λ l. both_fails_left (leb (word_behind input at 5) k) (lt-leb (word_behind input at 4) i l)) (λ l. both_fails_right (leb (word_behind input at 4) i) (lt-leb (word_behind input at 5) k l)) h))

-- what a stored call's run gives, from what each call of the code gave
module _ (input : List ℕ) (at : ℕ) (T : Tables) where
  pub navigation_run : {lent : Tables} {pathPlace count place after wrong : ℕ} {path : List ℕ} {found : Flat} → lent ≡ T → pathPlace ≡ place_after at 4 → count ≡ word_behind input at 3 → place ≡ place_after pathPlace count → path ≡ between input pathPlace place → found ≡ navigated_of input at path lent → wrong ≡ compared_of input place found false → after ≡ place_after place 18 → met wrong after ≡ navigation_of input at T
  unfolding navigation_of
  navigation_run {lent} {pathPlace} {count} {place} t p c a q f w e =
      let there : place ≡ answer_behind input at = a ∙ ap (λ (x : ℕ). place_after x count) p ∙ ap (place_after (path_at at)) c in
      let way = q ∙ ap (λ (x : ℕ). between input x place) p ∙ ap (between input (path_at at)) there in
      let answer = f ∙ ap (λ (x : List ℕ). navigated_of input at x lent) way ∙ ap (navigated_of input at (between input (path_at at) (answer_behind input at))) t in
      let judged = w ∙ ap (λ (x : Flat). compared_of input place x false) answer ∙ ap (λ (x : ℕ). compared_of input x (navigated_of input at (between input (path_at at) (answer_behind input at)) T) false) there in
      let behind = e ∙ ap (λ (x : ℕ). place_after x 18) there in
      λ i. met (judged i) (behind i)

  pub equality_run : {lent : Tables} {asEnum asUnique storedEnum storedUnique before wrong after : ℕ} → lent ≡ T → asEnum ≡ equal_of Enum input at lent → asUnique ≡ equal_of Unique input at lent → storedEnum ≡ word_behind input at 3 → before ≡ judged_of storedEnum asEnum 0 → storedUnique ≡ word_behind input at 4 → wrong ≡ judged_of storedUnique asUnique before → after ≡ place_after at 5 → met wrong after ≡ equality_of input at T
  unfolding equality_of
  equality_run {asEnum = asEnum} {asUnique} {storedEnum} {storedUnique} {before} t e u s b k w a =
      let first = b ∙ ap (λ (x : ℕ). judged_of x asEnum 0) s ∙ ap (λ (x : ℕ). judged_of (word_behind input at 3) x 0) (e ∙ ap (equal_of Enum input at) t) in
      let second = w ∙ ap (λ (x : ℕ). judged_of x asUnique before) k ∙ ap (λ (x : ℕ). judged_of (word_behind input at 4) x before) (u ∙ ap (equal_of Unique input at) t) ∙ ap (judged_of (word_behind input at 4) (equal_of Unique input at T)) first in
      λ i. met (second i) (a i)

-- all that a validation leaves, compared
pub left-run : (input : List ℕ) (at : ℕ) (left : Left) {place steps kinds instancePlace halfway kindsPlace answered twice instance_words walked schema_words wrong after : ℕ} → place ≡ place_after at 6 → steps ≡ word_behind input place 9 → kinds ≡ word_behind input place 10 → instancePlace ≡ place_after place 18 → halfway ≡ place_after instancePlace steps → kindsPlace ≡ place_after halfway steps → answered ≡ compared_of input place left.answer false → twice ≡ (steps + steps) % 2 ^ 32 → instance_words ≡ word_behind input at 4 → walked ≡ path_wrong input instancePlace twice left.instance instance_words answered → schema_words ≡ word_behind input at 5 → wrong ≡ path_wrong input kindsPlace kinds left.schema schema_words walked → after ≡ place_after kindsPlace kinds → met wrong after ≡ left_met input at left
unfolding left_met
left-run input at left {place} {steps} {kinds} {instancePlace} {halfway} {kindsPlace} {answered} {twice} {instance_words} {walked} {schema_words} pe se ke ie he le ae te iw we sw re fe =
    let steps₁ : steps ≡ step_count input at = se ∙ ap (λ (x : ℕ). word_behind input x 9) pe in
    let kinds₁ : kinds ≡ kind_count input at = ke ∙ ap (λ (x : ℕ). word_behind input x 10) pe in
    let instance₁ : instancePlace ≡ steps_at at = ie ∙ ap (λ (x : ℕ). place_after x 18) pe in
    let halfway₁ : halfway ≡ place_after (steps_at at) (step_count input at) = he ∙ ap (λ (x : ℕ). place_after x steps) instance₁ ∙ ap (place_after (steps_at at)) steps₁ in
    let place₁ : kindsPlace ≡ kinds_at input at = le ∙ ap (λ (x : ℕ). place_after x steps) halfway₁ ∙ ap (place_after (place_after (steps_at at) (step_count input at))) steps₁ in
    let answered₁ = ae ∙ ap (λ (x : ℕ). compared_of input x left.answer false) pe in
    let twice₁ = te ∙ ap (λ (x : ℕ). (x + x) % 2 ^ 32) steps₁ in
    let walked₁ =
    we
    ∙ ap (λ (x : ℕ). path_wrong input x twice left.instance instance_words answered) instance₁
    ∙ ap (λ (x : ℕ). path_wrong input (steps_at at) x left.instance instance_words answered) twice₁
    ∙ ap (λ (x : ℕ). path_wrong input (steps_at at) ((step_count input at + step_count input at) % 2 ^ 32) left.instance x answered) iw
    ∙ ap (path_wrong input (steps_at at) ((step_count input at + step_count input at) % 2 ^ 32) left.instance (word_behind input at 4)) answered₁ in
    let wrong₁ =
    re
    ∙ ap (λ (x : ℕ). path_wrong input x kinds left.schema schema_words walked) place₁
    ∙ ap (λ (x : ℕ). path_wrong input (kinds_at input at) x left.schema schema_words walked) kinds₁
    ∙ ap (λ (x : ℕ). path_wrong input (kinds_at input at) (kind_count input at) left.schema x walked) sw
    ∙ ap (path_wrong input (kinds_at input at) (kind_count input at) left.schema (word_behind input at 5)) walked₁ in
    let behind = fe ∙ ap (λ (x : ℕ). place_after x kinds) place₁ ∙ ap (place_after (kinds_at input at)) kinds₁ in
    λ i. met (wrong₁ i) (behind i)

-- the first words of a buffer, as many as are stored
pub lent_words : (n : ℕ) (l : List ℕ) {w : ℕ} → n ≤ length l → n ≡ w → length (take n l) ≡ w
lent_words n l h e = length-take-le n l h ∙ e

pub lent_within : (n : ℕ) (l : List ℕ) → n ≤ length l → length (take n l) ≤ length l
lent_within n l h = omega (arith, lent_words n l h refl)

-- a call over buffers of as many words as are stored
pub within_run : (input : List ℕ) (at : ℕ) (T : Tables) (i k : ℕ) {r : Met} {a b : ℕ} → a ≡ word_behind input at 4 → b ≡ word_behind input at 5 → r ≡ left_met input at (validated_of input at T a b) → a ≤ i → b ≤ k → r ≡ within_of input at T i k
within_run input at T i k {a = a} {b} p q e m n =
    e
    ∙ ap (λ (x : ℕ). left_met input at (validated_of input at T x b)) p
    ∙ ap (λ (x : ℕ). left_met input at (validated_of input at T (word_behind input at 4) x)) q
    ∙ within_yes input at T i k (omega arith) (omega arith)

-- more words than the buffers have are refused
pub within_refused : (input : List ℕ) (at : ℕ) (T : Tables) (i k : ℕ) {a b w : ℕ} → a ≡ word_behind input at 4 → b ≡ word_behind input at 5 → w ≡ judged_of 0 2863311530 0 → (a ≤ i → b ≤ k → ⊥) → met w 4294967297 ≡ within_of input at T i k
unfolding judged_of
within_refused input at T i k {a} {b} p q e h = ap (λ (x : ℕ). met x 4294967297) e ∙ within_no input at T i k long
  where
    long : (i < word_behind input at 4) ⊎ (k < word_behind input at 5)
    long = ⊎_elim (λ l. inr (⊎_elim (λ m. absurd (h l m)) (λ m. omega arith) (le_or_lt b k))) (λ l. inl (omega arith)) (le_or_lt a i)

-- buffers of 512 words
pub validation_run : (input : List ℕ) (at : ℕ) (T : Tables) {lent : Tables} {i k : ℕ} {r : Met} → lent ≡ T → i ≡ 512 → k ≡ 512 → r ≡ within_of input at lent i k → r ≡ validation_of input at T
unfolding validation_of
validation_run input at T {lent} {i} {k} t a b e =
    e
    ∙ ap (λ (x : Tables). within_of input at x i k) t
    ∙ ap (λ (x : ℕ). within_of input at T x k) a
    ∙ ap (within_of input at T 512) b
