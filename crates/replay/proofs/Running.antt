-- A run's steps, from what each call of the code gave. Assumes nothing.
use Rattle.std.proofs.Common.{◌≡◌, ℕ, suc, ◌+◌, ◌%◌, ◌^◌, Bool, true, false, eqb, List, sym, refl, ap, ◌∙◌, arith, eq-eqb, ne_eqb}
use Rattle.text.specs.Choice.{pick_yes, pick_no, both, both_fails_left}
use Rattle.layout.specs.Layout.{Tables}
use Rattle.stored.specs.Stored.{place_after, word_behind}
use Rattle.stored.specs.Group.{Unpacked, unpacked}
use Rattle.stored.specs.declared.group.Group.{Group}
use Rattle.replay.specs.declared.Run.{Run}
use Rattle.replay.specs.declared.answer.Met.{Met}
use Rattle.replay.specs.Calls.{group_tables, navigation_of, validation_of, equality_of}
use Rattle.replay.specs.Run.{counted_of, failed_of, placed_of, call_of, calls_of, group_of, is_file}

module _ (call : ℕ) (input : List ℕ) (run : Run) (T : Tables) where
  pub call_navigates : {met : Met} {r : Run} → call ≡ 0 → met ≡ navigation_of input run.at T → r ≡ counted_of run met → r ≡ call_of call input run T
  unfolding call_of
  call_navigates k m e = e ∙ ap (counted_of run) m ∙ sym (pick_yes _ _ (eq-eqb call 0 k))

  pub call_validates : {met : Met} {r : Run} → call ≡ 1 → met ≡ validation_of input run.at T → r ≡ counted_of run met → r ≡ call_of call input run T
  unfolding call_of
  call_validates k m e =
      e ∙ ap (counted_of run) m ∙ sym (pick_no _ _ (ne_eqb call 0 (λ z. omega arith)) ∙ pick_yes _ _ (eq-eqb call 1 k))

  pub call_compares : {met : Met} {r : Run} → call ≡ 3 → met ≡ equality_of input run.at T → r ≡ counted_of run met → r ≡ call_of call input run T
  unfolding call_of
  call_compares k m e =
      e
      ∙ ap (counted_of run) m
      ∙ sym (pick_no _ _ (ne_eqb call 0 (λ z. omega arith)) ∙ pick_no _ _ (ne_eqb call 1 (λ z. omega arith)) ∙ pick_yes _ _ (eq-eqb call 3 k))

  pub call_unknown : {r : Run} → (call ≡ 0 → ⊥) → (call ≡ 1 → ⊥) → (call ≡ 3 → ⊥) → r ≡ failed_of run → r ≡ call_of call input run T
  unfolding call_of
  call_unknown a b c e =
      e ∙ sym (pick_no _ _ (ne_eqb call 0 a) ∙ pick_no _ _ (ne_eqb call 1 b) ∙ pick_no _ _ (ne_eqb call 3 c))

  pub calls-none : run ≡ calls_of call input run T 0
  unfolding calls_of
  calls-none = refl

  next : (i : ℕ) → call_of call input (calls_of call input run T i) T ≡ calls_of call input run T (suc i)
  unfolding calls_of
  next i = refl

  -- one more call
  pub calls_more : (i : ℕ) {now r : Run} → now ≡ calls_of call input run T i → r ≡ call_of call input now T → r ≡ calls_of call input run T (i + 1)
  calls_more i e h =
      h ∙ ap (λ (x : Run). call_of call input x T) e ∙ next i ∙ ap (calls_of call input run T) (omega arith)

-- all calls of a group
pub group-run : (call : ℕ) (input : List ℕ) (before : Run) (u : Unpacked) (i : ℕ) {group : Group} {words pool numbers : List ℕ} {count after : ℕ} {first run : Run} → unpacked group words pool numbers ≡ u → count ≡ word_behind input group.after 0 → after ≡ place_after group.after 1 → first ≡ placed_of before after → {T : Tables} → T ≡ group_tables group words pool numbers → run ≡ calls_of call input first T i → i ≡ count → run ≡ group_of call input before u
unfolding group_of
group-run call input before u i {group} {words} {pool} {numbers} {count} {after} {first} e n a f t r q =
    r
    ∙ ap (λ (T : Tables). calls_of call input first T i) t
    ∙ ap (calls_of call input first (group_tables group words pool numbers)) (q ∙ n)
    ∙ ap (λ (x : Run). calls_of call input x (group_tables group words pool numbers) (word_behind input group.after 0)) (f ∙ ap (placed_of before) a)
    ∙ ap (λ (x : Unpacked). calls_of call input (placed_of before (place_after x.group.after 1)) (group_tables x.group x.words x.pool x.numbers) (word_behind input x.group.after 0)) e
