-- Demand 3 said of the calls of `compile`: of two schemas that differ in a grouped run of bases, two calls that both answer 0 leave the same
-- schema. Assumes nothing.
use Prim.Native.Nat.{ℕ}
use mathlib.Core.Path.{sym, subst}
use mathlib.Core.List.{List}
use Rattle.error.specs.declared.Used.{Used}
use Rattle.layout.specs.Layout.{Tables}
use Rattle.lookup.specs.Lookup.{find_in}
use Rattle.schema.specs.Look.{Words, words_of}
use Rattle.compilation.specs.Entry.{used_tables, room_of, compile_of}
use Rattle.grouping.specs.Values.{SameValues, with_schemas, grown}
use Rattle.grouping.specs.Regrouped.{Grouped, Regrouped}
use Rattle.grouping.specs.Demand.{SameSchema}
use Rattle.grouping.proofs.Grouping.{bases_may_be_grouped, bases_may_be_grouped_anywhere}
use Rattle.keeping.specs.Left.{Compiles, left_by}
use Rattle.keeping.proofs.Called.{Done, done, sound_tables, within, left_is, place_is, compiling_is, limited}

-- what holds of the words and the record that two compiles make, holds of what the calls leave
said : (T T' : Tables) (u u' : Used) (s s' : ℕ) (a : Done T u s) (b : Done T' u' s') →
    SameSchema (grown (used_tables T u) a.words) a.place (grown (used_tables T' u') b.words) b.place →
    SameSchema (left_by T (compile_of T u s)) (compile_of T u s).answer.place (left_by T' (compile_of T' u' s')) (compile_of T' u' s').answer.place
said T T' u u' s s' a b z =
    subst (λ (X : Tables). SameSchema X (compile_of T u s).answer.place (left_by T' (compile_of T' u' s')) (compile_of T' u' s').answer.place) (sym (left_is T u s a))
    (subst (λ (x : ℕ). SameSchema (grown (used_tables T u) a.words) x (left_by T' (compile_of T' u' s')) (compile_of T' u' s').answer.place) (sym (place_is T u s a))
    (subst (λ (X : Tables). SameSchema (grown (used_tables T u) a.words) a.place X (compile_of T' u' s').answer.place) (sym (left_is T' u' s' b))
    (subst (λ (x : ℕ). SameSchema (grown (used_tables T u) a.words) a.place (grown (used_tables T' u') b.words) x) (sym (place_is T' u' s' b)) z)))

-- d' is d with the empty object e over a run of its bases: both calls, on the same tables, answer 0
pub compiles_may_be_grouped : (T : Tables) (u : Used) (d d' e : ℕ) → Grouped (words_of (used_tables T u)) d d' e →
    Compiles T u d → Compiles T u d' →
    SameSchema (left_by T (compile_of T u d)) (compile_of T u d).answer.place (left_by T (compile_of T u d')) (compile_of T u d').answer.place
compiles_may_be_grouped T u d d' e g h h' =
    let a = done T u d h in
    let b = done T u d' h' in
    said T T u u d d' a b
    (bases_may_be_grouped (used_tables T u) (sound_tables T u d a) (room_of T) (limited T) d d' e (within T u d a) (within T u d' b) g a.place b.place a.words b.words (compiling_is T u d a) (compiling_is T u d' b))

-- the same where such objects stand anywhere in what s and s' reach; the tables lent to the two calls hold the same values
pub compiles_may_be_grouped_anywhere : (T : Tables) (t : Words) (registry : List ℕ) (u u' : Used) →
    (let A : Tables = used_tables T u in let B : Tables = used_tables (with_schemas T t registry) u' in
    SameValues T.nodes A.links B.links → (Q : ℕ → ℕ → Type 0) → Regrouped (words_of A) (words_of B) Q (find_in A) (find_in B) → (s s' : ℕ) → Q s s' →
    Compiles T u s → Compiles (with_schemas T t registry) u' s' →
    SameSchema (left_by T (compile_of T u s)) (compile_of T u s).answer.place (left_by (with_schemas T t registry) (compile_of (with_schemas T t registry) u' s')) (compile_of (with_schemas T t registry) u' s').answer.place)
unfolding used_tables
compiles_may_be_grouped_anywhere T t registry u u' v Q k s s' q h h' =
    let T' : Tables = with_schemas T t registry in
    let a = done T u s h in
    let b = done T' u' s' h' in
    said T T' u u' s s' a b
    (bases_may_be_grouped_anywhere (used_tables T u) (words_of (used_tables T' u')) registry (sound_tables T u s a) (sound_tables T' u' s' b) v (room_of T) (room_of T') (limited T) (limited T') Q k s s' q
    a.place b.place a.words b.words (compiling_is T u s a) (compiling_is T' u' s' b))
