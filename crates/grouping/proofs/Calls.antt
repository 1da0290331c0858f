-- Demand 3 said of the calls of `validate`: two calls that come to an answer for the value give the same one. Assumes nothing.
use Prim.Native.Nat.{ℕ, ◌≤◌, ◌<◌}
use mathlib.Core.Path.{◌≡◌, refl, sym, ap, subst, ◌∙◌}
use mathlib.Core.Bool.{Bool, true, false}
use mathlib.Core.List.{List, []}
use native.Mathlib.Omega.{arith}
use lib.ListN.{length}
use lib.Dec.{ltb}
use borrow.Author.Tests.{lt-ltb, le-ltb}
use Rattle.text.specs.Choice.{either, pick}
use Rattle.error.specs.declared.Mode.{Mode}
use Rattle.error.specs.Answers.{answer_of, plain_answer, refusal_of}
use Rattle.error.specs.Paths.{Step, instance_buffer, levels}
use Rattle.error.proofs.Paths.{kinds-back}
use Rattle.layout.specs.Layout.{Tables, node_count, schema_count}
use Rattle.std.specs.Prelude.{Ok, Err}
use Rattle.tables.specs.Found.{Fault, Sound}
use Rattle.tables.proofs.Numbers.{failure_number, Twenty, tables_twenty}
use Rattle.tables.specs.Check.{tables_fault}
use Rattle.validator.specs.Outcome.{Error, Outcome, accepted, refused, invalid, ended}
use Rattle.validator.specs.Validate.{instance_words, schema_step_words, visit_of, Validated, empty_handed, answered, checked_first, validate_of}
use Rattle.grouping.specs.Grown.{Tree}
use Rattle.grouping.specs.Same.{without_all, Refusal, Answered, accepts, refuses, invalidates, ends, refusal_by, answered_by}
use Rattle.grouping.specs.Demand.{opened, SameSchema, Comes, SameCall}

-- a call that comes to an answer is a visit
module _ (T : Tables) (mode : Mode) (node s i k : ℕ) where
  abbrev visited : Validated
  visited = answered (visit_of T mode levels node s) i k

  past_buffers : (b : Bool) → Comes (pick b (empty_handed (plain_answer 22) i k) visited) → pick b (empty_handed (plain_answer 22) i k) visited ≡ visited
  past_buffers true c = absurd (c.buffers (unfold answer_of in refl))
  past_buffers false c = refl

  past_places : (b : Bool) (v : Validated) → (Comes v → v ≡ visited) → Comes (pick b v (empty_handed (plain_answer 21) i k)) → pick b v (empty_handed (plain_answer 21) i k) ≡ visited
  past_places true v h c = h c
  past_places false v h c = absurd (c.places (unfold answer_of in refl))

  past_tables : (f : Fault) → Twenty f → (v : Validated) → (Comes v → v ≡ visited) → Comes (checked_first f i k v) → checked_first f i k v ≡ visited
  past_tables (Ok u) w v h c = h c
  past_tables (Err failure) w v h c = absurd (c.tables (failure_number failure ∙ w))

  call_visits : Comes (validate_of T mode node s i k) → validate_of T mode node s i k ≡ visited
  unfolding validate_of
  call_visits =
      past_tables (tables_fault T) (tables_twenty T) _
      (past_places (ltb node (node_count T.nodes)) _
      (past_places (ltb s (schema_count T.schemas)) _ (past_buffers (either (ltb i instance_words) (ltb k schema_step_words)))))

  not-deep : (visited.answer.number ≡ 23 → ⊥) → visit_of T mode levels node s ≡ ended 23 → ⊥
  not-deep c e = c (at (visit_of T mode levels node s) e)
    where
      at : (o : Outcome) → o ≡ ended 23 → (answered o i k).answer.number ≡ 23
      at o e = subst (λ (x : Outcome). (answered x i k).answer.number ≡ 23) (sym e) (unfold answer_of in refl)

  -- good tables, places and buffers: the call is the visit
  pub good_call_visits : tables_fault T ≡ Sound → node < node_count T.nodes → s < schema_count T.schemas → instance_words ≤ i → schema_step_words ≤ k → validate_of T mode node s i k ≡ visited
  unfolding validate_of
  good_call_visits e n l a b =
      rw (e, lt-ltb node (node_count T.nodes) n, lt-ltb s (schema_count T.schemas) l, le-ltb i instance_words a, le-ltb k schema_step_words b)

refusal_or : {N : Type 0} → Refusal N → Answered N → Refusal N
refusal_or d accepts = d
refusal_or d (refuses e) = e
refusal_or d (invalidates p) = d
refusal_or d (ends n) = d

steps_or : {N : Type 0} → Answered N → List Step
steps_or accepts = []
steps_or (refuses e) = []
steps_or (invalidates p) = p
steps_or (ends n) = []

end_or : {N : Type 0} → Answered N → ℕ
end_or accepts = 0
end_or (refuses e) = 0
end_or (invalidates p) = 0
end_or (ends n) = n

module _ (T T' : Tables) (i k : ℕ) where
  same_refusal : (e e' : Error) → refusal_by (opened T) e ≡ refusal_by (opened T') e' → SameCall T T' (answered (refused e) i k) (answered (refused e') i k)
  unfolding refusal_of
  same_refusal e e' h = record {
    number = ap (λ (x : Refusal Tree). x.number) h;
    node = ap (λ (x : Refusal Tree). x.node) h;
    hint = ap (λ (x : Refusal Tree). x.hint) h;
    detail = ap (λ (x : Refusal Tree). x.detail) h;
    steps = ap (λ (x : Refusal Tree). length x.steps) h;
    instance = ap (λ (x : Refusal Tree). instance_buffer x.steps i) h;
    path = ap without_all (kinds-back e.kinds k) ∙ (ap (λ (x : Refusal Tree). x.kinds) h ∙ sym (ap without_all (kinds-back e'.kinds k)));
    schema = λ p q. ap (λ (x : Refusal Tree). x.schema) h;
  }

  same_invalid : (p p' : List Step) → p ≡ p' → SameCall T T' (answered (invalid p) i k) (answered (invalid p') i k)
  unfolding refusal_of
  same_invalid p p' h = record { number = refl; node = refl; hint = refl; detail = refl; steps = ap (λ (x : List Step). length x) h; instance = ap (λ (x : List Step). instance_buffer x i) h; path = refl; schema = λ p q. absurd (p refl) }

  same_plain : (n n' : ℕ) → n ≡ n' → SameCall T T' (empty_handed (plain_answer n) i k) (empty_handed (plain_answer n') i k)
  unfolding answer_of
  same_plain n n' h = record { number = h; node = refl; hint = refl; detail = refl; steps = refl; instance = refl; path = refl; schema = λ p q. absurd (p refl) }

  same_outcomes : (o o' : Outcome) → answered_by (opened T) o ≡ answered_by (opened T') o' → SameCall T T' (answered o i k) (answered o' i k)
  unfolding answered_by refusal_or steps_or end_or
  same_outcomes accepted accepted h = same_plain 0 0 refl
  same_outcomes accepted (refused e) h = absurd (let q : ◌≡◌ {A = ℕ} 0 1 = cc in omega arith)
  same_outcomes accepted (invalid p) h = absurd (let q : ◌≡◌ {A = ℕ} 0 1 = cc in omega arith)
  same_outcomes accepted (ended n) h = absurd (let q : ◌≡◌ {A = ℕ} 0 1 = cc in omega arith)
  same_outcomes (refused e) accepted h = absurd (let q : ◌≡◌ {A = ℕ} 0 1 = cc in omega arith)
  same_outcomes (refused e) (refused e') h = same_refusal e e' (ap (refusal_or (refusal_by (opened T) e)) h)
  same_outcomes (refused e) (invalid p) h = absurd (let q : ◌≡◌ {A = ℕ} 0 1 = cc in omega arith)
  same_outcomes (refused e) (ended n) h = absurd (let q : ◌≡◌ {A = ℕ} 0 1 = cc in omega arith)
  same_outcomes (invalid p) accepted h = absurd (let q : ◌≡◌ {A = ℕ} 0 1 = cc in omega arith)
  same_outcomes (invalid p) (refused e) h = absurd (let q : ◌≡◌ {A = ℕ} 0 1 = cc in omega arith)
  same_outcomes (invalid p) (invalid p') h = same_invalid p p' (ap steps_or h)
  same_outcomes (invalid p) (ended n) h = absurd (let q : ◌≡◌ {A = ℕ} 0 1 = cc in omega arith)
  same_outcomes (ended n) accepted h = absurd (let q : ◌≡◌ {A = ℕ} 0 1 = cc in omega arith)
  same_outcomes (ended n) (refused e) h = absurd (let q : ◌≡◌ {A = ℕ} 0 1 = cc in omega arith)
  same_outcomes (ended n) (invalid p) h = absurd (let q : ◌≡◌ {A = ℕ} 0 1 = cc in omega arith)
  same_outcomes (ended n) (ended n') h = same_plain n n' (ap end_or h)

-- of schemas that are the same, two calls that are visits, neither of which meets the depth limit, answer alike
pub visits_alike : (T T' : Tables) (r r' : ℕ) → SameSchema T r T' r' → (mode : Mode) (node i k : ℕ) →
    validate_of T mode node r i k ≡ visited T mode node r i k → validate_of T' mode node r' i k ≡ visited T' mode node r' i k →
    ((validate_of T mode node r i k).answer.number ≡ 23 → ⊥) → ((validate_of T' mode node r' i k).answer.number ≡ 23 → ⊥) →
    SameCall T T' (validate_of T mode node r i k) (validate_of T' mode node r' i k)
visits_alike T T' r r' z mode node i k e e' c c' =
    subst (λ (x : Validated). SameCall T T' x (validate_of T' mode node r' i k)) (sym e)
    (subst (λ (x : Validated). SameCall T T' (visited T mode node r i k) x) (sym e')
    (same_outcomes T T' i k (visit_of T mode levels node r) (visit_of T' mode levels node r')
    (z.answers mode node
    (not-deep T mode node r i k (λ q. c (ap (λ (x : Validated). x.answer.number) e ∙ q)))
    (not-deep T' mode node r' i k (λ q. c' (ap (λ (x : Validated). x.answer.number) e' ∙ q))))))

-- of schemas that are the same, two calls that come to an answer for the value give the same one
pub calls_alike : (T T' : Tables) (r r' : ℕ) → SameSchema T r T' r' → (mode : Mode) (node i k : ℕ) → Comes (validate_of T mode node r i k) → Comes (validate_of T' mode node r' i k) →
    SameCall T T' (validate_of T mode node r i k) (validate_of T' mode node r' i k)
calls_alike T T' r r' z mode node i k c c' =
    visits_alike T T' r r' z mode node i k (call_visits T mode node r i k c) (call_visits T' mode node r' i k c') c.depth c'.depth

-- tables that pass the check, a node and records that are there, buffers that are long enough: only the depth limit is left to ask for
pub good_calls_alike : (T T' : Tables) (r r' : ℕ) → SameSchema T r T' r' → tables_fault T ≡ Sound → tables_fault T' ≡ Sound → r < schema_count T.schemas → r' < schema_count T'.schemas →
    (mode : Mode) (node i k : ℕ) → node < node_count T.nodes → node < node_count T'.nodes → instance_words ≤ i → schema_step_words ≤ k →
    ((validate_of T mode node r i k).answer.number ≡ 23 → ⊥) → ((validate_of T' mode node r' i k).answer.number ≡ 23 → ⊥) →
    SameCall T T' (validate_of T mode node r i k) (validate_of T' mode node r' i k)
good_calls_alike T T' r r' z sound sound' l l' mode node i k n n' a b =
    visits_alike T T' r r' z mode node i k (good_call_visits T mode node r i k sound n l a b) (good_call_visits T' mode node r' i k sound' n' l' a b)
