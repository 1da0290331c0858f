-- Every compile visit, by kind, then by level: over checked tables the two definitions answer alike. Assumes nothing.
use Prim.Native.Nat.{ℕ, zero, suc, ◌*◌, ◌<◌, ◌≤◌}
use mathlib.Core.Path.{◌≡◌, refl, sym, ◌∙◌}
use mathlib.Core.Bool.{Bool, true, false}
use mathlib.Core.List.{List}
use mathlib.Core.Logic.{⊎_elim}
use mathlib.Core.Option.{Option, some, none}
use native.Mathlib.Omega.{arith}
use lib.ListN.{length}
use lib.Dec.{eqb, leb}
use borrow.Author.Tests.{lt-leb, ne_eqb, eqb-true, eqb-false}
use Rattle.text.specs.Choice.{pick, pick_all, le_or_lt}
use Rattle.text.specs.Text.{same_text}
use Rattle.layout.specs.Layout.{Tables, tables, NONE, schema_kind, schema_count, bases_first, bases_count, entry_count, entry_schema}
use Rattle.lookup.specs.Find.{Found, last_below, found_at, to_option}
use Rattle.std.specs.Prelude.{Some, None}
use Rattle.lookup.specs.Lookup.{entry_is_named, resolve_of}
use Rattle.tables.specs.Facts.{WellFormed}
use Rattle.tables.proofs.Facts.{SchemaFacts, schema-facts, entry-facts}
use Rattle.schema.specs.Shape.{object, ref}
use Rattle.schema.specs.Look.{Words, slice, note_of_schema, look, bases}
use Rattle.merge.specs.Pairs.{record_pairs}
use Rattle.compilation.specs.State.{Source, State, Out, done, refused}
use Rattle.compilation.specs.Table.{field, plain_at, derived_at, is_built, is_eager, on_found, node_at, compile_at}
use Rattle.compilation.specs.Compile.{Result, Room, eagerly, compile_shape, compile_at as compiled}
use Rattle.compilation.proofs.Grows.{Grown}
use Rattle.compilation.proofs.Same.{words_in, Same, made, stopped, Rooms}
use Rattle.compilation.proofs.Children.{Follows}
use Rattle.compilation.proofs.Looked.{seen, look-plain, look_any, look_all, look-array, look-object, look_ref}
use Rattle.compilation.proofs.Bases.{Says}
use Rattle.compilation.proofs.Built.{word, says, group_same, array_same, plain_same, derived_same}

-- what is found lies below c
abbrev FoundBelow : ℕ → Found → Type 0
FoundBelow c (Some i) = i < c
FoundBelow c None = Unit {0}

found_later : (n : ℕ) (x : Found) → FoundBelow n x → FoundBelow (suc n) x
found_later n (Some i) h = omega arith
found_later n None h = tt

last_below_lem : (f : ℕ → Bool) (n : ℕ) → FoundBelow n (last_below f n)
unfolding last_below
last_below_lem f zero = tt
last_below_lem f (suc n) = pick_all (FoundBelow (suc n)) (f n) (Some n) (last_below f n) (λ e. omega arith) (λ e. found_later n (last_below f n) (last_below_lem f n))

value_below : (value : ℕ → ℕ) (n c : ℕ) → ((i : ℕ) → i < n → value i < c) → (x : Found) → FoundBelow n x → FoundBelow c (found_at value x)
value_below value n c h (Some i) l = h i l
value_below value n c h None l = tt

-- the kinds there are
by_kind : {A : Type 0} (k : ℕ) → k ≤ 11 → (k ≤ 6 → A) → (k ≡ 7 → A) → (k ≡ 8 → A) → (k ≡ 9 → A) → (k ≡ 10 → A) → (k ≡ 11 → A) → A
by_kind k h low a b c d e =
    ⊎_elim low
    (λ l6. ⊎_elim (λ m. a (omega arith))
    (λ l7. ⊎_elim (λ m. b (omega arith))
    (λ l8. ⊎_elim (λ m. c (omega arith))
    (λ l9. ⊎_elim (λ m. d (omega arith)) (λ l10. e (omega arith))
    (le_or_lt k 10)) (le_or_lt k 9)) (le_or_lt k 8)) (le_or_lt k 7)) (le_or_lt k 6)

-- one visit, where a child is compiled by go
abbrev visit_at : Source → (State → ℕ → Out) → State → ℕ → Out
visit_at C go st s =
    pick (leb C.count s) (refused 21)
    (pick (is_eager C.schemas s) (on_found (resolve_of C.pool C.texts C.registry (field C s 2)) (go st) (refused 32))
    (pick (is_built (field C s 0)) (node_at C go st s) (done st s)))

abbrev pub target_in : Source → ℕ → Option ℕ
target_in C name = to_option (resolve_of C.pool C.texts C.registry name)

bases_none : (t : Words) (s : ℕ) → bases_first t.schemas s ≡ NONE → bases t s ≡ none
unfolding bases
bases_none t s e = rw e

bases_some : (t : Words) (s : ℕ) → (bases_first t.schemas s ≡ NONE → ⊥) → bases t s ≡ some (slice t.links (bases_first t.schemas s) (bases_count t.schemas s))
unfolding bases
bases_some t s e = rw (ne_eqb (bases_first t.schemas s) NONE e)

module _ {C : Source} {R : Room} (rooms : Rooms C R) (nodes patterns numbers : List ℕ) (good : WellFormed (tables C.pool C.texts nodes C.notes C.schemas C.registry patterns C.links numbers)) (whole : length C.schemas ≡ C.count * 16) where
  abbrev same : ℕ → ℕ → Bool
  same = same_text C.pool C.texts

  abbrev U : Tables
  U = tables C.pool C.texts nodes C.notes C.schemas C.registry patterns C.links numbers

  counted : schema_count C.schemas ≡ C.count
  unfolding schema_count
  counted = omega arith

  target_below : (name : ℕ) → FoundBelow C.count (resolve_of C.pool C.texts C.registry name)
  unfolding resolve_of
  target_below name =
      value_below (entry_schema C.registry) (entry_count C.registry) C.count (λ i l. rw counted at (entry-facts U good i l).1)
      (last_below (entry_is_named C.pool C.texts C.registry name) (entry_count C.registry))
      (last_below_lem (entry_is_named C.pool C.texts C.registry name) (entry_count C.registry))

  module _ (go : State → ℕ → Out) (to : ℕ → Words → Result ℕ) (follows : Follows C go to) (s : ℕ) (h : s < C.count) (st : State) (g : Grown C st) where
    abbrev t : Words
    t = words_in st

    abbrev Met : Type 0
    Met = Same C (visit_at C go st s) (compile_shape R same (target_in C) to s t (look t s) (bases t s))

    facts : SchemaFacts U s
    facts = schema-facts U good s (rw counted h)

    kind_is : {k : ℕ} → field C s 0 ≡ k → schema_kind t.schemas s ≡ k
    kind_is e = word whole s h g 0 (omega arith) ∙ e

    inside : leb C.count s ≡ false
    inside = lt-leb C.count s h

    at_plain : field C s 0 ≤ 6 → Met
    unfolding compile_shape
    at_plain l =
        let e : eqb (field C s 0) 11 ≡ false = ne_eqb (field C s 0) 11 (λ z. omega arith) in
        let b : leb 7 (field C s 0) ≡ false = lt-leb 7 (field C s 0) (omega arith) in
        let k : schema_kind t.schemas s ≤ 6 = rw (word whole s h g 0 (omega arith)) l in
        rw (inside, e, b, look-plain t s k) (made st s g)

    at_any : field C s 0 ≡ 7 → Met
    unfolding compile_shape node_at
    at_any e = rw (inside, e, look_any t s (kind_is e)) (group_same rooms (target_in C) whole go to follows s h st g 7 e (facts.any_of e))

    at_all : field C s 0 ≡ 8 → Met
    unfolding compile_shape node_at
    at_all e = rw (inside, e, look_all t s (kind_is e)) (group_same rooms (target_in C) whole go to follows s h st g 8 e (facts.all_of e))

    at_array : field C s 0 ≡ 9 → Met
    unfolding compile_shape node_at
    at_array e = rw (inside, e, look-array t s (kind_is e)) (array_same rooms (target_in C) whole go to follows s h st g e (facts.items e))

    at_object : field C s 0 ≡ 10 → Met
    unfolding compile_shape node_at record_pairs
    at_object e = rw (inside, e, look-object t s (kind_is e)) (choose (eqb (field C s 14) NONE) refl)
      where
        own : Says C s (seen t s)
        own = says whole s h g facts.note (facts.object e)

        first : bases_first t.schemas s ≡ field C s 14
        first = word whole s h g 14 (omega arith)

        choose : (c : Bool) → eqb (field C s 14) NONE ≡ c → Same C (pick c (plain_at C go st s) (derived_at C go st s)) (compile_shape R same (target_in C) to s t (object (seen t s)) (bases t s))
        choose true q =
            rw (bases_none t s (first ∙ eqb-true (field C s 14) NONE q))
            (plain_same rooms (target_in C) whole go to follows s h st g (facts.object e) (seen t s).props (seen t s).patterns own.props own.patterns)
        choose false q =
            let there : field C s 14 ≡ NONE → ⊥ = eqb-false (field C s 14) NONE q in
            rw (bases_some t s (λ z. there (sym first ∙ z)))
            (derived_same rooms (target_in C) whole go to follows s h st g (seen t s) own ((facts.object e).bases there))

    -- an eager ref's target is a record of the source
    eager_same : (x : Found) → FoundBelow C.count x → Same C (on_found x (go st) (refused 32)) (eagerly R same (target_in C) to (to_option x) t)
    eager_same (Some i) l = follows st i g l
    eager_same None l = stopped 32

    at_ref : field C s 0 ≡ 11 → Met
    unfolding compile_shape
    at_ref e =
        rw (inside, e, look_ref t s (kind_is e), word whole s h g 2 (omega arith), word whole s h g 3 (omega arith)) (choose (eqb (field C s 3) 1))
      where
        choose : (c : Bool) → Same C (pick c (on_found (resolve_of C.pool C.texts C.registry (field C s 2)) (go st) (refused 32)) (done st s)) (compile_shape R same (target_in C) to s t (ref (note_of_schema t s) (field C s 2) c) (bases t s))
        choose true = eager_same (resolve_of C.pool C.texts C.registry (field C s 2)) (target_below (field C s 2))
        choose false = made st s g

    visited : Met
    visited = by_kind (field C s 0) facts.kind at_plain at_any at_all at_array at_object at_ref

  -- every level
  pub visits_same : (k : ℕ) → Follows C (λ st s. compile_at C k st s) (compiled R same (target_in C) k)
  unfolding compile_at compiled
  visits_same zero st s g h = stopped 23
  visits_same (suc k) st s g h = visited (λ st₁ s₁. compile_at C k st₁ s₁) (compiled R same (target_in C) k) (visits_same k) s h st g
