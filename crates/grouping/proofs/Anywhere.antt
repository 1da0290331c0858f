-- Lists of bases with and without empty objects over runs, anywhere in two tables: what compiles in both means the same. Assumes nothing.
use Prim.Native.Nat.{ℕ, ◌≤◌, ◌<◌}
use mathlib.Core.Path.{◌≡◌, sym, ap, ◌∙◌}
use mathlib.Core.Bool.{Bool}
use mathlib.Core.Option.{Option}
use native.Mathlib.Omega.{arith}
use Rattle.layout.specs.Layout.{NONE}
use Rattle.schema.specs.Look.{Words, look}
use Rattle.validator.specs.Outcome.{ended}
use Rattle.validator.specs.Visit.{Nodes, visit_at}
use Rattle.compilation.specs.Compile.{ok, Room, compile_at}
use Rattle.grouping.specs.Record.{count}
use Rattle.grouping.specs.Same.{Schemaless, answered_by}
use Rattle.grouping.specs.Tree.{Trees, whole, view, Perhaps, absent, present}
use Rattle.grouping.specs.Meant.{meant_at}
use Rattle.grouping.specs.Regrouped.{Maybe, neither, both, Regrouped}
use Rattle.grouping.proofs.Simulation.{Quiet}
use Rattle.grouping.proofs.Merging.{Keys}
use Rattle.grouping.proofs.Growing.{Extends, extends_self, Sound, count_grows}
use Rattle.grouping.proofs.Frame.{ordered, view-kept}
use Rattle.grouping.proofs.Opened.{self}
use Rattle.grouping.proofs.Twins.{Twins, twins_visits}
use Rattle.grouping.proofs.Compiled.{Done, compiled}
use Rattle.grouping.proofs.Context.{view-kin, meaning_kin, compat_same}

abbrev pub tree_in : {N : Type 0} → Trees N → Words → ℕ → N
tree_in B t s = whole B (view B (look t) s)

-- the same fields, nested joins opened; and where neither check meets the depth limit every value gets the same answer
pub record Alike {N : Type 0} (B : Trees N) (find find' : ℕ → Option ℕ) (r r' : ℕ) (U U' : Words) : Type 0 where
  pub fields : view B (look U) r ≡ view B (look U') r'
  pub answers : (D : Nodes) → Quiet Schemaless D → (j j' n : ℕ) → (visit_at D self (look U) find j n r ≡ ended 23 → ⊥) → (visit_at D self (look U') find' j' n r' ≡ ended 23 → ⊥) →
      answered_by (tree_in B U) (visit_at D self (look U) find j n r) ≡ answered_by (tree_in B U') (visit_at D self (look U') find' j' n r')

pub left_known : {P : ℕ → Type 0} {Q : ℕ → ℕ → Type 0} → ((x y : ℕ) → Q x y → P x) → {x y : Option ℕ} → Maybe Q x y → Perhaps P x
left_known h neither = absent
left_known h (both q) = present (h _ _ q)

pub right_known : {P : ℕ → Type 0} {Q : ℕ → ℕ → Type 0} → ((x y : ℕ) → Q x y → P y) → {x y : Option ℕ} → Maybe Q x y → Perhaps P y
right_known h neither = absent
right_known h (both q) = present (h _ _ q)

module _ {N : Type 0} (B : Trees N) (eq : ℕ → ℕ → Bool) (L : Keys eq) (R R' : Room) (roomy : R.schemas < NONE) (note-room : R.notes < NONE)
    (roomy' : R'.schemas < NONE) (note-room' : R'.notes < NONE)
    (T T' : Words) (z : Sound T) (z' : Sound T') (Q : ℕ → ℕ → Type 0) (find find' : ℕ → Option ℕ) (K : Regrouped T T' Q find find') where
  known : (t : ℕ) → Perhaps (λ x. x < count T) (find t)
  known t = left_known K.within (K.found t)

  known' : (t : ℕ) → Perhaps (λ x. x < count T') (find' t)
  known' t = right_known K.within' (K.found t)

  -- compiling only appends
  pub grows : (s s' : ℕ) → Q s s' → (k r : ℕ) (U : Words) → compile_at R eq find k s T ≡ ok r U → Extends T U
  grows s s' q k r U h = (compiled B R eq find roomy note-room T z known k s (K.within s s' q) T U r z (extends_self T) h).grown

  pub grows' : (s s' : ℕ) → Q s s' → (k r : ℕ) (U : Words) → compile_at R' eq find' k s' T' ≡ ok r U → Extends T' U
  grows' s s' q k r U h = (compiled B R' eq find' roomy' note-room' T' z' known' k s' (K.within' s s' q) T' U r z' (extends_self T') h).grown

  module _ (U U' : Words) (y : Sound U) (y' : Sound U') (e : Extends T U) (e' : Extends T' U') where
    few : count U ≤ NONE
    few = omega (arith, y.placed.few)

    few' : count U' ≤ NONE
    few' = omega (arith, y'.placed.few)

    abbrev TwinsIn : ℕ → ℕ → Type 0
    TwinsIn = Twins B (look U) (look U') (count U) (count U') (ordered y) (ordered y') few few'

    -- records of the first tables that are related stand for one tree in the grown ones
    names-kin : {x x' : Option ℕ} → Maybe Q x x' → Maybe TwinsIn x x'
    names-kin neither = neither
    names-kin (both {s = x} {u = x'} q) =
        both {s = x} {u = x'} (record {
          within = omega (arith, K.within x x' q, count_grows e);
          within' = omega (arith, K.within' x x' q, count_grows e');
          is = ap (whole B) (view-kept B z e x (K.within x x' q) ∙ (view-kin B T T' z z' Q find find' K x x' q ∙ sym (view-kept B z' e' x' (K.within' x x' q))));
        })

    answers_kin : (r r' : ℕ) → r < count U → r' < count U' → view B (look U) r ≡ view B (look U') r' → Alike B find find' r r' U U'
    answers_kin r r' i i' v =
        record {
          fields = v;
          answers = λ D quiet j j' n a a'.
              twins_visits B (look U) (look U') (count U) (count U') (ordered y) (ordered y') few few' find find' (λ t. names-kin (K.found t)) D quiet j j' n r r'
              (record { within = i; within' = i'; is = ap (whole B) v }) a a';
        }

  pub demand_three_anywhere : (s s' : ℕ) → Q s s' → (k k' r r' : ℕ) (U U' : Words) → compile_at R eq find k s T ≡ ok r U → compile_at R' eq find' k' s' T' ≡ ok r' U' → Alike B find find' r r' U U'
  demand_three_anywhere s s' q k k' r r' U U' h h' =
      let a : Done B R eq find roomy note-room T z known (meant_at B eq find T k s) T U r = compiled B R eq find roomy note-room T z known k s (K.within s s' q) T U r z (extends_self T) h in
      let a' : Done B R' eq find' roomy' note-room' T' z' known' (meant_at B eq find' T' k' s') T' U' r' = compiled B R' eq find' roomy' note-room' T' z' known' k' s' (K.within' s s' q) T' U' r' z' (extends_self T') h' in
      answers_kin U U' a.sound a'.sound a.grown a'.grown r r' a.new a'.new
      (compat_same (meaning_kin B T T' z z' Q find find' K eq L k k' s s' q) a.is a'.is)
