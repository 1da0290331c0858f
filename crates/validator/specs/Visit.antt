-- Document 01, "A visit", over anything that decodes: `look` gives one record, `who` its number, `find` the registry, `D` the nodes.
-- Assumes nothing.
use Rattle.std.specs.Prelude.{ℕ, zero, suc, ◌+◌, Bool, true, false, List, [], ◌∷◌}
use Rattle.std.proofs.Math.Option.{Option, some, none}
use Rattle.text.specs.Choice.{pick}
use Rattle.error.specs.declared.Detail.TheVariants.{Property, Key, Reference}
use Rattle.error.specs.Answers.{NONE}
use Rattle.error.specs.Paths.{key_step, item_step}
use Rattle.judge.specs.Judge.{Verdict}
use Rattle.schema.specs.Shape.{Note, Pair, Own, Object, Shape, plain, any_of, all_of, array, object, ref}
use Rattle.validator.specs.Outcome.{Error, Outcome, accepted, refused, ended, made, under, place, and_then, any_end, any_step, verdict}

-- an object's entry: its key's text where the key is a string, and its value
pub record Entry : Type 0 where
  pub key : Option ℕ
  pub value : ℕ

-- the nodes, which no law of the visit looks into
pub record Nodes : Type 0 where
  pub same : ℕ → ℕ → Bool
  pub judge : Own → ℕ → Verdict
  pub counted : ℕ → ℕ → ℕ → Verdict
  pub object_first : ℕ → Verdict
  pub has : ℕ → ℕ → Bool
  pub items : ℕ → List ℕ
  pub entries : ℕ → List Entry

-- the value of the pair with an equal key
unfoldable pub find_pair : {A : Type 0} → (ℕ → ℕ → Bool) → ℕ → List (Pair A) → Option A
find_pair eq k [] = none
find_pair eq k (p ∷ ps) =
    let rest = find_pair eq k ps in
    pick (eq p.key k) (some p.value) rest

-- allOf: first refusal
unfoldable pub all_over : {A : Type 0} → (A → Outcome) → List A → Outcome
all_over go [] = accepted
all_over go (x ∷ xs) =
    let rest = all_over go xs in
    and_then (go x) rest

-- anyOf: first acceptance accepts; otherwise the first error any alternative left
unfoldable pub any_over : {A : Type 0} → (A → Outcome) → Option Error → List A → Outcome
any_over go best [] = any_end best
any_over go best (x ∷ xs) = any_step (go x) best (λ b. any_over go b xs)

-- array: items in order
unfoldable pub items_over : (ℕ → Outcome) → ℕ → List ℕ → Outcome
items_over go i [] = accepted
items_over go i (x ∷ xs) =
    let rest = items_over go (i + 1) xs in
    and_then (place (item_step i) (go x)) rest

module _ {S : Type 0} (D : Nodes) (who : S → ℕ) where
  -- the number of a schema that may be absent
  abbrev pub number_or : Option S → ℕ
  number_or none = NONE
  number_or (some s) = who s

  -- required in list order, at the object
  unfoldable pub required_over : S → Object S → ℕ → List ℕ → Outcome
  required_over s o n [] = accepted
  required_over s o n (t ∷ ts) =
      let rest = required_over s o n ts in
      pick (D.has n t) rest (refused (made 2 n (who s) o.note (Property t (number_or (find_pair D.same t o.props)))))

  -- no property: closed refuses at the object, else additional
  abbrev pub extra_at : (ℕ → S → Outcome) → S → Object S → ℕ → ℕ → ℕ → Option (List S) → Bool → Outcome
  extra_at go s o n t v more true = refused (made 3 n (who s) o.note (Key t))
  extra_at go s o n t v none false = accepted
  extra_at go s o n t v (some xs) false = place (key_step t) (all_over (go v) xs)

  abbrev pub property_at : (ℕ → S → Outcome) → S → Object S → ℕ → ℕ → ℕ → Option S → Outcome
  property_at go s o n t v (some x) = place (key_step t) (go v x)
  property_at go s o n t v none = extra_at go s o n t v o.additional o.closed

  -- non-string keys are skipped even where closed
  abbrev pub entry_at : (ℕ → S → Outcome) → S → Object S → ℕ → ℕ → Option ℕ → Outcome
  entry_at go s o n v none = accepted
  entry_at go s o n v (some t) = property_at go s o n t v (find_pair D.same t o.props)

  -- entries in order
  unfoldable pub entries_over : (ℕ → S → Outcome) → S → Object S → ℕ → List Entry → Outcome
  entries_over go s o n [] = accepted
  entries_over go s o n (e ∷ es) =
      let rest = entries_over go s o n es in
      and_then (entry_at go s o n e.value e.key) rest

  -- object: type, duplicate string keys; required; counts; entries
  unfoldable pub object_at : (ℕ → S → Outcome) → S → Object S → ℕ → Outcome
  object_at go s o n =
      and_then (verdict (D.object_first n) (who s) o.note)
      (and_then (required_over s o n o.required)
      (and_then (verdict (D.counted o.least o.most n) (who s) o.note)
      (entries_over go s o n (D.entries n))))

  unfoldable pub array_at : (ℕ → S → Outcome) → Option S → ℕ → Outcome
  array_at go none n = accepted
  array_at go (some x) n = items_over (λ m. go m x) 0 (D.items n)

  -- ref: the registry's schema, or 12
  abbrev pub ref_at : (ℕ → S → Outcome) → S → Option Note → ℕ → ℕ → Option S → Outcome
  ref_at go s note t n none = refused (made 12 n (who s) note (Reference t))
  ref_at go s _ t n (some x) = go n x

  -- kinds 1 to 5 add one schema step; True and any accept, so that theirs is never seen
  unfoldable pub visit_body : (ℕ → Option S) → (ℕ → S → Outcome) → ℕ → S → Shape S → Outcome
  visit_body find go n s (plain w) = under w.kind (verdict (D.judge w n) (who s) w.note)
  visit_body find go n s (any_of _ xs) = under 7 (any_over (go n) none xs)
  visit_body find go n s (all_of _ xs) = under 8 (all_over (go n) xs)
  visit_body find go n s (array w x) = under 9 (and_then (verdict (D.judge w n) (who s) w.note) (array_at go x n))
  visit_body find go n s (object o) = under 10 (object_at go s o n)
  visit_body find go n s (ref note t eager) = ref_at go s note t n (find t)

  -- each visit is one level; without one left it is 23, whatever the schema is
  unfoldable pub visit_at : (S → Shape S) → (ℕ → Option S) → ℕ → ℕ → S → Outcome
  visit_at look find zero n s = ended 23
  visit_at look find (suc k) n s = visit_body find (visit_at look find k) n s (look s)
