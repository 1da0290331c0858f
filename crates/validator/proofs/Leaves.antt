-- Hints, verdicts, marks and choices, each in the case that the code is in. Assumes nothing.
use Prim.Native.Nat.{ℕ, ◌≤◌, ◌<◌}
use mathlib.Core.Path.{◌≡◌, sym, ◌∙◌}
use mathlib.Core.List.{List}
use lib.Dec.{eqb}
use borrow.Author.Tests.{eq-eqb, ne_eqb, lt-ltb, le-ltb}
use Rattle.error.specs.Answers.{NONE}
use Rattle.error.specs.declared.Failure.{Failure}
use Rattle.error.specs.declared.Failure.TheVariants.{WrongNumber, ShortBuffer}
use Rattle.layout.specs.Layout.{Tables, note_error_message, node_count, schema_count, properties_first, properties_count, object_closed, additional_properties}
use Rattle.lookup.specs.Find.{Found}
use Rattle.std.specs.Prelude.{Some, None}
use Rattle.lookup.specs.Lookup.{property_of}
use Rattle.tables.specs.Found.{Fault, Sound}
use Rattle.tables.specs.Check.{tables_fault}
use Rattle.schema.specs.Look.{note_at}
use Rattle.validator.specs.declared.walk.Choice.TheVariants.{Part, Closed, Skip}
use Rattle.std.specs.Prelude.{Ok, Err}
use Rattle.validator.specs.Outcome.{hint_of}
use Rattle.validator.specs.Met.{choice_of, chosen_in, begun_of}

-- ---- hints
module _ (notes : List ℕ) (n note : ℕ) (e : note ≡ n) where
  pub hint-none : note ≡ NONE → NONE ≡ hint_of (note_at notes n)
  unfolding note_at
  hint-none h = rw (sym e ∙ h)

  pub hint_some : (r : ℕ) → (note ≡ NONE → ⊥) → r ≡ note_error_message notes note → r ≡ hint_of (note_at notes n)
  unfolding note_at
  hint_some r h q = q ∙ rw (← e) (simp (ne_eqb note NONE h))

-- ---- choices
module _ (pool texts schemas links : List ℕ) (s t a b : ℕ) (f : Found) (p : a ≡ properties_first schemas s) (q : b ≡ properties_count schemas s) (e : f ≡ property_of pool texts links a b t) where
  chosen : chosen_in pool texts schemas links s t ≡ choice_of f (eqb (object_closed schemas s) 1) (additional_properties schemas s)
  unfolding chosen_in
  chosen = rw (e, p, q)

  pub chosen_part : (x : ℕ) → f ≡ Some x → Part x ≡ chosen_in pool texts schemas links s t
  chosen_part x h = sym (chosen ∙ rw h)

  module _ (closed : ℕ) (h : f ≡ None) (c : closed ≡ object_closed schemas s) where
    pub chosen_closed : closed ≡ 1 → Closed ≡ chosen_in pool texts schemas links s t
    chosen_closed g = sym (chosen ∙ rw (h, sym c ∙ g))

    module _ (more : ℕ) (m : more ≡ additional_properties schemas s) (g : closed ≡ 1 → ⊥) where
      pub chosen_skip : more ≡ NONE → Skip ≡ chosen_in pool texts schemas links s t
      chosen_skip z = sym (chosen ∙ rw (h, ← c, ← m) (simp (ne_eqb closed 1 g, eq-eqb more NONE z)))

      pub chosen_more : (more ≡ NONE → ⊥) → Part more ≡ chosen_in pool texts schemas links s t
      chosen_more z = sym (chosen ∙ rw (h, ← c, ← m) (simp (ne_eqb closed 1 g, ne_eqb more NONE z)))

-- ---- what comes before the work
module _ (T : Tables) (n s i k : ℕ) (f : Fault) (e : f ≡ tables_fault T) where
  pub begun_bad : {failure : Failure} {r : Fault} → f ≡ Err failure → r ≡ Err failure → r ≡ begun_of T n s i k
  unfolding begun_of
  begun_bad h q = rw (← e, h, q)

  module _ (h : f ≡ Sound) (nodes : ℕ) (p : nodes ≡ node_count T.nodes) where
    pub begun_node : nodes ≤ n → Err WrongNumber ≡ begun_of T n s i k
    unfolding begun_of
    begun_node l = rw (← e, h, ← p) (simp (le-ltb n nodes l))

    module _ (l : n < nodes) (schemas : ℕ) (w : schemas ≡ schema_count T.schemas) where
      pub begun_schema : schemas ≤ s → Err WrongNumber ≡ begun_of T n s i k
      unfolding begun_of
      begun_schema g = rw (← e, h, ← p, ← w) (simp (lt-ltb n nodes l, le-ltb s schemas g))

      module _ (g : s < schemas) where
        pub begun_instance : i < 128 → Err ShortBuffer ≡ begun_of T n s i k
        unfolding begun_of
        begun_instance x = rw (← e, h, ← p, ← w) (simp (lt-ltb n nodes l, lt-ltb s schemas g, lt-ltb i 128 x))

        pub begun_steps : 128 ≤ i → k < 64 → Err ShortBuffer ≡ begun_of T n s i k
        unfolding begun_of
        begun_steps x y = rw (← e, h, ← p, ← w) (simp (lt-ltb n nodes l, lt-ltb s schemas g, le-ltb i 128 x, lt-ltb k 64 y))

        pub begun_work : 128 ≤ i → 64 ≤ k → Ok tt ≡ begun_of T n s i k
        unfolding begun_of
        begun_work x y = rw (← e, h, ← p, ← w) (simp (lt-ltb n nodes l, lt-ltb s schemas g, le-ltb i 128 x, le-ltb k 64 y))
