-- A visit answers alike where the nodes do, as far as it asks: with the same lists of nodes every value gets the same answer. Assumes
-- nothing.
use Prim.Native.Nat.{ℕ, zero, suc, ◌+◌, ◌≤◌, ◌<◌}
use mathlib.Core.Path.{◌≡◌, refl, sym, ap, ap₂, ◌∙◌}
use mathlib.Core.Bool.{Bool, true, false}
use mathlib.Core.List.{List, [], ◌∷◌}
use mathlib.Core.Option.{Option, some, none}
use native.Mathlib.Omega.{arith}
use lib.Dec.{eqb}
use Rattle.text.specs.Choice.{pick}
use Rattle.error.specs.declared.Mode.{Mode}
use Rattle.error.specs.Paths.{key_step, item_step}
use Rattle.error.specs.declared.Detail.TheVariants.{Property}
use Rattle.layout.specs.Layout.{Tables, node_kind, node_a, node_b}
use Rattle.lookup.specs.Find.{Found}
use Rattle.schema.specs.Shape.{Note, Own, Object, Shape, plain, any_of, all_of, array, object, ref}
use Rattle.schema.specs.Look.{Words, detecting, sort_shape, raw, look}
use Rattle.std.specs.Prelude.{Ok, Err}
use Rattle.judge.specs.declared.Wrong.TheVariants.{Value, BadPattern, Unanswered}
use Rattle.judge.specs.Judge.{Verdict, fine, boolean_verdict, number_verdict, string_verdict, null_verdict, array_verdict, object_verdict, judge_of}
use Rattle.validator.specs.Outcome.{Outcome, accepted, refused, invalid, ended, made, under, place, and_then, any_step, verdict, Error}
use Rattle.validator.specs.Visit.{Entry, Nodes, find_pair, all_over, any_over, items_over, number_or, required_over, extra_at, property_at, entry_at, entries_over, object_at, array_at, ref_at, visit_body, visit_at}
use Rattle.validator.specs.Nodes.{entry_of, entries_from, nodes_of}
use Rattle.grouping.specs.Record.{row_at, array_of}
use Rattle.grouping.specs.Values.{SameValues, with_schemas}
use Rattle.grouping.proofs.Rowed.{raw_row}
use Rattle.grouping.proofs.Rows.{Reads, r_plain, r_any, r_all, r_array, r_object, r_ref, reads}
use Rattle.grouping.proofs.Values.{NodesAlike, key_same, entry_same, items_list, enum_same, array_same, object_same, has_same, fine_kind}
use Rattle.grouping.proofs.Opened.{self}

-- ---- the nodes of two tables
module _ (T : Tables) (t : Words) (registry : List ℕ) (L : SameValues T.nodes T.links t.links) (mode : Mode) (answer : ℕ → ℕ → Found) where
  abbrev T' : Tables
  T' = with_schemas T t registry

  judge_same : (w : Own) (n : ℕ) → judge_of T mode answer w n ≡ judge_of T' mode answer w n
  unfolding judge_of
  judge_same w n =
      ap₂ (λ (x y : Verdict).
      pick (eqb w.kind 1) (boolean_verdict T.nodes n)
      (pick (eqb w.kind 2) (number_verdict T.nodes T.numbers w.words n)
      (pick (eqb w.kind 3) (string_verdict mode answer T.pool T.texts T.nodes w.words n)
      (pick (eqb w.kind 4) (null_verdict T.nodes n)
      (pick (eqb w.kind 5) x (pick (eqb w.kind 9) y fine))))))
      (enum_same T.nodes T.links t.links L T.pool T.texts T.numbers mode w.words n)
      (array_same T.nodes T.links t.links L T.pool T.texts T.numbers mode w.words n)

  array_kind : (w : Own) (n : ℕ) → w.kind ≡ 9 → judge_of T mode answer w n ≡ fine → node_kind T.nodes n ≡ 5
  unfolding judge_of array_verdict
  array_kind w n e h = fine_kind T.nodes 5 9 n _ (rw e at h)

  object_kind : (n : ℕ) → object_verdict T.pool T.texts T.nodes T.links n ≡ fine → node_kind T.nodes n ≡ 6
  unfolding object_verdict
  object_kind n h = fine_kind T.nodes 6 10 n _ h

  entry_alike : (n k : ℕ) → node_kind T.nodes n ≡ 6 → k < node_b T.nodes n → entry_of T n k ≡ entry_of T' n k
  unfolding entry_of
  entry_alike n k e i = λ j. record {
    key =
        pick (eqb (node_kind T.nodes (key_same T.nodes T.links t.links L n k e i j)) 4)
        (some (node_a T.nodes (key_same T.nodes T.links t.links L n k e i j))) none;
    value = entry_same T.nodes T.links t.links L n k e i j;
  }

  entries_alike : (n : ℕ) → node_kind T.nodes n ≡ 6 → (k c : ℕ) → k + c ≤ node_b T.nodes n → entries_from T n k c ≡ entries_from T' n k c
  unfolding entries_from
  entries_alike n e k zero le = refl
  entries_alike n e k (suc c) le = ap₂ (λ (x : Entry) (xs : List Entry). x ∷ xs) (entry_alike n k e (omega arith)) (entries_alike n e (k + 1) c (omega arith))

  pub nodes_alike : NodesAlike (nodes_of T mode answer) (nodes_of T' mode answer)
  nodes_alike = record {
    same = refl;
    judge = judge_same;
    counted = λ least most n. refl;
    object_first = λ n. object_same T.nodes T.links t.links L T.pool T.texts n;
    items = λ w n e h. items_list T.nodes T.links t.links L n (array_kind w n e h);
    has = λ n text h. has_same T.nodes T.links t.links L T.pool T.texts n text (object_kind n h);
    entries = λ n h. entries_alike n (object_kind n h) 0 (node_b T.nodes n) (omega arith);
  }

-- ---- a visit over alike nodes
then_same : (v : Verdict) (s : ℕ) (note : Option Note) {r r' : Outcome} → (v ≡ fine → r ≡ r') → and_then (verdict v s note) r ≡ and_then (verdict v s note) r'
then_same (Ok u) s note h = h refl
then_same (Err (Value why node d)) s note h = refl
then_same (Err BadPattern) s note h = refl
then_same (Err Unanswered) s note h = refl

all_same : {A : Type 0} (f g : A → Outcome) → ((x : A) → f x ≡ g x) → (xs : List A) → all_over f xs ≡ all_over g xs
unfolding all_over
all_same f g h [] = refl
all_same f g h (x ∷ xs) = ap₂ and_then (h x) (all_same f g h xs)

any_same : {A : Type 0} (f g : A → Outcome) → ((x : A) → f x ≡ g x) → (best : Option Error) (xs : List A) → any_over f best xs ≡ any_over g best xs
unfolding any_over
any_same f g h best [] = refl
any_same f g h best (x ∷ xs) = at (f x) (g x) (h x) (λ b. any_same f g h b xs)
  where
    at : (a b : Outcome) → a ≡ b → ((b : Option Error) → any_over f b xs ≡ any_over g b xs) → any_step a best (λ b. any_over f b xs) ≡ any_step b best (λ b. any_over g b xs)
    at a b e rest = ap (λ (o : Outcome). any_step o best (λ b. any_over f b xs)) e ∙ steps b rest
      where
        steps : (o : Outcome) → ((b : Option Error) → any_over f b xs ≡ any_over g b xs) → any_step o best (λ b. any_over f b xs) ≡ any_step o best (λ b. any_over g b xs)
        steps accepted rest = refl
        steps (refused e) rest = rest _
        steps (invalid p) rest = rest best
        steps (ended n) rest = refl

items_same : (f g : ℕ → Outcome) → ((x : ℕ) → f x ≡ g x) → (i : ℕ) (xs : List ℕ) → items_over f i xs ≡ items_over g i xs
unfolding items_over
items_same f g h i [] = refl
items_same f g h i (x ∷ xs) = ap₂ and_then (ap (place (item_step i)) (h x)) (items_same f g h (i + 1) xs)

module _ (D D' : Nodes) (A : NodesAlike D D') (look : ℕ → Shape ℕ) (nine : (s : ℕ) (w : Own) (x : Option ℕ) → look s ≡ array w x → w.kind ≡ 9) (find : ℕ → Option ℕ) where
  required_same : (s : ℕ) (o : Object ℕ) (n : ℕ) → D.object_first n ≡ fine → (ts : List ℕ) → required_over D self s o n ts ≡ required_over D' self s o n ts
  unfolding required_over
  required_same s o n h [] = refl
  required_same s o n h (t ∷ ts) = λ i.
      pick (A.has n t h i) (required_same s o n h ts i) (refused (made 2 n s o.note (Property t (number_or D self (find_pair (A.same i) t o.props)))))

  module _ (go go' : ℕ → ℕ → Outcome) (H : (n s : ℕ) → go n s ≡ go' n s) where
    extra_same : (s : ℕ) (o : Object ℕ) (n t v : ℕ) (x : Option (List ℕ)) (b : Bool) → extra_at D self go s o n t v x b ≡ extra_at D' self go' s o n t v x b
    extra_same s o n t v x true = refl
    extra_same s o n t v none false = refl
    extra_same s o n t v (some xs) false = ap (place (key_step t)) (all_same (go v) (go' v) (H v) xs)

    property_same : (s : ℕ) (o : Object ℕ) (n t v : ℕ) (x : Option ℕ) → property_at D self go s o n t v x ≡ property_at D' self go' s o n t v x
    property_same s o n t v none = extra_same s o n t v o.additional o.closed
    property_same s o n t v (some x) = ap (place (key_step t)) (H v x)

    entry_same_visit : (s : ℕ) (o : Object ℕ) (n v : ℕ) (key : Option ℕ) → entry_at D self go s o n v key ≡ entry_at D' self go' s o n v key
    entry_same_visit s o n v none = refl
    entry_same_visit s o n v (some t) =
        property_same s o n t v (find_pair D.same t o.props) ∙ ap (λ (eq : ℕ → ℕ → Bool). property_at D' self go' s o n t v (find_pair eq t o.props)) A.same

    entries_same : (s : ℕ) (o : Object ℕ) (n : ℕ) (es : List Entry) → entries_over D self go s o n es ≡ entries_over D' self go' s o n es
    unfolding entries_over
    entries_same s o n [] = refl
    entries_same s o n (e ∷ es) = ap₂ and_then (entry_same_visit s o n e.value e.key) (entries_same s o n es)

    object_visits : (s : ℕ) (o : Object ℕ) (n : ℕ) → object_at D self go s o n ≡ object_at D' self go' s o n
    unfolding object_at
    object_visits s o n =
        then_same (D.object_first n) s o.note (λ h. ap₂ and_then (required_same s o n h o.required)
        (ap₂ (λ (v : Verdict) (r : Outcome). and_then (verdict v s o.note) r) (A.counted o.least o.most n)
        (entries_same s o n (D.entries n) ∙ ap (entries_over D' self go' s o n) (A.entries n h)))) ∙
        ap (λ (v : Verdict). and_then (verdict v s o.note) (and_then (required_over D' self s o n o.required) (and_then (verdict (D'.counted o.least o.most n) s o.note) (entries_over D' self go' s o n (D'.entries n))))) (A.object_first n)

    array_visits : (w : Own) (x : Option ℕ) (n : ℕ) → w.kind ≡ 9 → D.judge w n ≡ fine → array_at D self go x n ≡ array_at D' self go' x n
    unfolding array_at
    array_visits w none n e h = refl
    array_visits w (some x) n e h = items_same (λ m. go m x) (λ m. go' m x) (λ m. H m x) 0 (D.items n) ∙ ap (items_over (λ m. go' m x) 0) (A.items w n e h)

    ref_visits : (s : ℕ) (note : Option Note) (t n : ℕ) (x : Option ℕ) → ref_at D self go s note t n x ≡ ref_at D' self go' s note t n x
    ref_visits s note t n none = refl
    ref_visits s note t n (some x) = H n x

    bodies : (n s : ℕ) (sh : Shape ℕ) → look s ≡ sh → visit_body D self find go n s sh ≡ visit_body D' self find go' n s sh
    unfolding visit_body
    bodies n s (plain w) e = ap (λ (v : Verdict). under w.kind (verdict v s w.note)) (A.judge w n)
    bodies n s (any_of note xs) e = ap (under 7) (any_same (go n) (go' n) (H n) none xs)
    bodies n s (all_of note xs) e = ap (under 8) (all_same (go n) (go' n) (H n) xs)
    bodies n s (array w x) e =
        ap (under 9) (then_same (D.judge w n) s w.note (λ h. array_visits w x n (nine s w x e) h) ∙ ap (λ (v : Verdict). and_then (verdict v s w.note) (array_at D' self go' x n)) (A.judge w n))
    bodies n s (object o) e = ap (under 10) (object_visits s o n)
    bodies n s (ref note t b) e = ref_visits s note t n (find t)

  visits : (k n s : ℕ) → visit_at D self look find k n s ≡ visit_at D' self look find k n s
  unfolding visit_at
  visits zero n s = refl
  visits (suc k) n s = bodies (visit_at D self look find k) (visit_at D' self look find k) (λ n s. visits k n s) n s (look s) refl

-- an array's own words have its kind
own_kind : Shape ℕ → ℕ
own_kind (plain w) = 9
own_kind (any_of note xs) = 9
own_kind (all_of note xs) = 9
own_kind (array w x) = w.kind
own_kind (object o) = 9
own_kind (ref note t b) = 9

read_nine : {t : Words} {row : List ℕ} {sh : Shape ℕ} (d : ℕ → Bool) → Reads t row sh → own_kind (sort_shape d sh) ≡ 9
unfolding own_kind sort_shape array_of
read_nine d r_plain = refl
read_nine d r_any = refl
read_nine d r_all = refl
read_nine d r_array = refl
read_nine d r_object = refl
read_nine d r_ref = refl

nines : (t : Words) (s : ℕ) (w : Own) (x : Option ℕ) → look t s ≡ array w x → w.kind ≡ 9
unfolding look own_kind
nines t s w x e =
    sym (ap own_kind e) ∙ (ap (λ (sh : Shape ℕ). own_kind (sort_shape (λ n. detecting (raw t n)) sh)) (raw_row t s) ∙ read_nine (λ n. detecting (raw t n)) (reads t (row_at t s)))

-- with the same lists of nodes a visit of the same schemas answers the same
pub same_values : (T : Tables) (t : Words) (registry : List ℕ) → SameValues T.nodes T.links t.links → (mode : Mode) (answer : ℕ → ℕ → Found) (u : Words) (find : ℕ → Option ℕ) (k n s : ℕ) →
    visit_at (nodes_of T mode answer) self (look u) find k n s ≡ visit_at (nodes_of (with_schemas T t registry) mode answer) self (look u) find k n s
same_values T t registry L mode answer u find k n s =
    visits (nodes_of T mode answer) (nodes_of (with_schemas T t registry) mode answer) (nodes_alike T t registry L mode answer) (look u) (nines u) find k n s
