-- Document 01, demand 3, from end to end, over what the public calls are proved equal to: "In a list of bases, any run of one or more
-- neighbours may be replaced by one empty object that names the run as its bases. Where both compile, the results have the same fields,
-- nested joins opened; and where neither check meets the depth limit every value gets the same answer." What "the same" is stands in
-- `SameSchema` (the fields) and `SameCall` (the answer). Assumes nothing.
use Prim.Native.Nat.{ℕ, ◌≤◌, ◌<◌}
use mathlib.Core.List.{List}
use Rattle.error.specs.declared.Mode.{Mode}
use Rattle.error.specs.declared.Used.{Used}
use Rattle.layout.specs.Layout.{Tables, node_count}
use Rattle.lookup.specs.Lookup.{find_in}
use Rattle.schema.specs.Look.{Words, words_of}
use Rattle.validator.specs.Validate.{instance_words, schema_step_words}
use Rattle.compilation.specs.Entry.{used_tables, compile_of}
use Rattle.grouping.specs.Values.{SameValues, with_schemas}
use Rattle.grouping.specs.Regrouped.{Grouped, Regrouped}
use Rattle.grouping.specs.Demand.{SameSchema, SameCall}
use Rattle.grouping.proofs.Calls.{good_calls_alike}
use Rattle.keeping.specs.Left.{Compiles, left_by, validate_with, MeetsDepth}
use Rattle.keeping.proofs.Compiles.{compiles_may_be_grouped, compiles_may_be_grouped_anywhere}
use Rattle.keeping.proofs.Keeps.{compile_keeps_the_check}

-- two calls of `compile` that leave the same schema, in tables with the same nodes: two calls of `validate` answer alike
alike : (T T' : Tables) (u u' : Used) (s s' : ℕ) → Compiles T u s → Compiles T' u' s' →
    SameSchema (left_by T (compile_of T u s)) (compile_of T u s).answer.place (left_by T' (compile_of T' u' s')) (compile_of T' u' s').answer.place →
    (mode : Mode) (node i k : ℕ) → node < node_count T.nodes → node < node_count T'.nodes → instance_words ≤ i → schema_step_words ≤ k →
    (MeetsDepth (validate_with T (compile_of T u s) mode node i k) → ⊥) → (MeetsDepth (validate_with T' (compile_of T' u' s') mode node i k) → ⊥) →
    SameCall (left_by T (compile_of T u s)) (left_by T' (compile_of T' u' s')) (validate_with T (compile_of T u s) mode node i k) (validate_with T' (compile_of T' u' s') mode node i k)
unfolding left_by used_tables
alike T T' u u' s s' h h' z mode node i k n n' a b =
    let p = compile_keeps_the_check T u s h in
    let p' = compile_keeps_the_check T' u' s' h' in
    good_calls_alike (left_by T (compile_of T u s)) (left_by T' (compile_of T' u' s')) (compile_of T u s).answer.place (compile_of T' u' s').answer.place z p.sound p'.sound p.there p'.there mode node i k n n' a b

-- d' is d with the empty object e over a run of its bases; both compile, in the same lent tables, of which u records are used. Then the
-- same node, in either mode, is answered alike, where neither call meets the depth limit
pub bases_may_be_grouped_calls : (T : Tables) (u : Used) (d d' e : ℕ) → Grouped (words_of (used_tables T u)) d d' e → Compiles T u d → Compiles T u d' →
    (mode : Mode) (node i k : ℕ) → node < node_count T.nodes → instance_words ≤ i → schema_step_words ≤ k →
    (MeetsDepth (validate_with T (compile_of T u d) mode node i k) → ⊥) → (MeetsDepth (validate_with T (compile_of T u d') mode node i k) → ⊥) →
    SameCall (left_by T (compile_of T u d)) (left_by T (compile_of T u d')) (validate_with T (compile_of T u d) mode node i k) (validate_with T (compile_of T u d') mode node i k)
bases_may_be_grouped_calls T u d d' e g h h' mode node i k n = alike T T u u d d' h h' (compiles_may_be_grouped T u d d' e g h h') mode node i k n n

-- the same where such objects stand anywhere in what s and s' reach; the tables lent to the two compiles hold the same values
pub bases_may_be_grouped_anywhere_calls : (T : Tables) (t : Words) (registry : List ℕ) (u u' : Used) →
    (let T' : Tables = with_schemas T t registry in let A : Tables = used_tables T u in let B : Tables = used_tables T' u' in
    SameValues T.nodes A.links B.links → (Q : ℕ → ℕ → Type 0) → Regrouped (words_of A) (words_of B) Q (find_in A) (find_in B) → (s s' : ℕ) → Q s s' → Compiles T u s → Compiles T' u' s' →
    (mode : Mode) (node i k : ℕ) → node < node_count T.nodes → instance_words ≤ i → schema_step_words ≤ k →
    (MeetsDepth (validate_with T (compile_of T u s) mode node i k) → ⊥) → (MeetsDepth (validate_with T' (compile_of T' u' s') mode node i k) → ⊥) →
    SameCall (left_by T (compile_of T u s)) (left_by T' (compile_of T' u' s')) (validate_with T (compile_of T u s) mode node i k) (validate_with T' (compile_of T' u' s') mode node i k))
bases_may_be_grouped_anywhere_calls T t registry u u' v Q r s s' q h h' mode node i k n =
    alike T (with_schemas T t registry) u u' s s' h h' (compiles_may_be_grouped_anywhere T t registry u u' v Q r s s' q h h') mode node i k n n
