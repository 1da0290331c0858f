-- What a visit is, kind by kind, over what the code has at hand. Assumes nothing.
use Prim.Native.Nat.{ℕ, zero, suc, ◌+◌, ◌-◌, ◌≤◌, ◌<◌}
use mathlib.Core.Path.{◌≡◌, refl, sym, ap, ◌∙◌}
use mathlib.Core.Bool.{Bool, true, false}
use mathlib.Core.List.{List, [], ◌∷◌}
use mathlib.Core.Option.{Option, some, none}
use native.Mathlib.Omega.{arith}
use native.Mathlib.Numerals.{add-one}
use lib.Dec.{eqb, leb}
use lib.ListN.{get_or}
use borrow.Author.Tests.{eq-eqb, ne_eqb, le-leb, lt-leb, eqb-true, eqb-false, leb-false}
use Rattle.text.specs.Choice.{pick, pick_all, clash}
use Rattle.text.specs.Text.{same_text}
use Rattle.error.specs.declared.Mode.{Mode}
use Rattle.error.specs.declared.Detail.TheVariants.{Property, Key, Reference}
use Rattle.error.specs.Answers.{NONE}
use Rattle.error.specs.Paths.{key_step, step_of}
use Rattle.layout.specs.Layout.{Tables, node_kind, node_a, node_b, schema_kind, schema_word, list_first, list_count, array_items, ref_text, properties_first, properties_count, required_first, required_count, object_closed, additional_properties, pair_key, pair_value}
use Rattle.lookup.specs.Find.{Found, first_from, found_at, to_option}
use Rattle.std.specs.Prelude.{Some, None}
use Rattle.lookup.specs.Lookup.{entry_key, entry_value, pair_has_key, property_of, resolve_of, answer_of_pattern, find_in}
use Rattle.error.specs.declared.Reason.TheVariants as reason
use Rattle.judge.specs.declared.Wrong.TheVariants.{Value, BadPattern, Unanswered}
use Rattle.judge.specs.Judge.{Verdict, fine, first_wrong, boolean_verdict, null_verdict, number_verdict, string_verdict, enum_verdict, array_verdict, items_of, has_key, required_verdict, missing, before_entries, judge_of, number_or as foundOr}
use Rattle.schema.specs.Shape.{Note, Object, Shape, plain, any_of, all_of, array, object, ref}
use Rattle.schema.specs.Look.{words_of, look, raw, detecting, sort_shape, own_of, array_of, object_of, slice, pairs_from, own_words, optional}
use Rattle.validator.specs.declared.walk.Choice.{Choice}
use Rattle.validator.specs.declared.walk.Choice.TheVariants.{Part, Closed, Skip}
use Rattle.validator.specs.Outcome.{Outcome, accepted, refused, invalid, ended, made, under, place, and_then, verdict}
use Rattle.validator.specs.Visit.{Nodes, find_pair, any_over, all_over, items_over, entries_over, required_over, object_at, array_at, property_at, extra_at, number_or, visit_body, visit_at}
use Rattle.validator.specs.Nodes.{entry_of, entries_from}
use Rattle.validator.specs.Validate.{visit_of}
use Rattle.validator.specs.Met.{Visited, told, choice_of, chosen_in, nodes_in, note_in, object_in, any_in, all_in, array_in, entry_in, object_whole, ref_in, part_in, within, inner_in}
use Rattle.validator.proofs.Buffers.{is_accepted, and_stop, and_go, and_accepted, verdict-stop}
use Rattle.validator.proofs.Loops.{any_begin, all_begin, items_begin, entries_begin, entries_step, entries_end, items-stop as stop, items_more as more}
use Rattle.std.specs.Prelude.{Ok, Err}
use Rattle.validator.specs.declared.paths.Stop.{Stop}

-- ---- verdicts one after the other
verdict_first : (a b : Verdict) (s : ℕ) (note : Option Note) → verdict (first_wrong a b) s note ≡ and_then (verdict a s note) (verdict b s note)
verdict_first (Ok u) b s note = refl
verdict_first (Err (Value number node d)) b s note = refl
verdict_first (Err BadPattern) b s note = refl
verdict_first (Err Unanswered) b s note = refl

and_and : (a b c : Outcome) → and_then (and_then a b) c ≡ and_then a (and_then b c)
and_and accepted b c = refl
and_and (refused e) b c = refl
and_and (invalid p) b c = refl
and_and (ended n) b c = refl

-- ---- properties
pick_found : (b : Bool) (f : ℕ → ℕ) (k : ℕ) (later : Found) → pick b (some (f k)) (to_option (found_at f later)) ≡ to_option (found_at f (pick b (Some k) later))
pick_found true f k later = refl
pick_found false f k later = refl

module _ (pool texts links : List ℕ) (first t : ℕ) where
  find_from : (k n : ℕ) → find_pair (same_text pool texts) t (pairs_from links first k n) ≡ to_option (found_at (pair_value links first) (first_from (pair_has_key pool texts links first t) k n))
  unfolding find_pair pairs_from first_from pair_has_key
  find_from k zero = refl
  find_from k (suc n) =
      ap (pick (same_text pool texts (pair_key links first k) t) (some (pair_value links first k))) (find_from (k + 1) n ∙ ap (λ (m : ℕ). to_option (found_at (pair_value links first) (first_from (pair_has_key pool texts links first t) m n))) (add-one k))
      ∙ pick_found (same_text pool texts (pair_key links first k) t) (pair_value links first) k (first_from (pair_has_key pool texts links first t) (suc k) n)

  pub find_property : (n : ℕ) → find_pair (same_text pool texts) t (pairs_from links first 0 n) ≡ to_option (property_of pool texts links first n t)
  unfolding property_of
  find_property n = find_from 0 n

or_found : (D : Nodes) (f : Found) → number_or D (λ (x : ℕ). x) (to_option f) ≡ foundOr f
or_found D (Some x) = refl
or_found D None = refl

-- ---- one level
module _ (T : Tables) (mode : Mode) (n s : ℕ) where
  pub visit_none : (level : ℕ) → level ≡ 0 → visit_of T mode level n s ≡ ended 23
  unfolding visit_of visit_at
  visit_none level e = rw e

  visit_step : (level below : ℕ) → level ≡ suc below → visit_of T mode level n s ≡ visit_body (nodes_in T mode) (λ m. m) (find_in T) (visit_of T mode below) n s (look (words_of T) s)
  unfolding visit_of visit_at
  visit_step level below e = rw e

-- the kind that a shape has, as its schema step
KindIs : Shape ℕ → ℕ → Type 0
KindIs (plain w) k = w.kind ≡ k
KindIs (any_of note xs) k = k ≡ 7
KindIs (all_of note xs) k = k ≡ 8
KindIs (array w x) k = k ≡ 9
KindIs (object o) k = k ≡ 10
KindIs (ref note t eager) k = ⊥

no_kind : (k : ℕ) → k ≤ 10 → 6 < k → (k ≡ 7 → ⊥) → (k ≡ 8 → ⊥) → (k ≡ 9 → ⊥) → (k ≡ 10 → ⊥) → ⊥
no_kind k h g h7 h8 h9 h10 = omega arith

at_most_six : (k : ℕ) → k ≤ 10 → (k ≡ 7 → ⊥) → (k ≡ 8 → ⊥) → (k ≡ 9 → ⊥) → (k ≡ 10 → ⊥) → k ≤ 6
at_most_six k h h7 h8 h9 h10 = omega arith

module _ (T : Tables) (mode : Mode) (below n s kind : ℕ) where
  by_shape : (sh : Shape ℕ) → KindIs sh kind → visit_body (nodes_in T mode) (λ m. m) (find_in T) (visit_of T mode below) n s sh ≡ under kind (within T mode below n s sh)
  unfolding visit_body KindIs
  by_shape (plain w) e = ap (λ (k : ℕ). under k (verdict ((nodes_in T mode).judge w n) s w.note)) e
  by_shape (any_of note xs) e = rw e
  by_shape (all_of note xs) e = rw e
  by_shape (array w x) e = rw e
  by_shape (object o) e = rw e
  by_shape (ref note t eager) e = absurd e

  module _ (own : kind ≡ schema_kind T.schemas s) where
    look_kind : kind ≤ 10 → KindIs (look (words_of T) s) kind
    unfolding look sort_shape raw own_of KindIs
    look_kind h =
        let own-kind = schema_kind T.schemas s in
        let P : Shape ℕ → Type 0 = λ (sh : Shape ℕ). KindIs (sort_shape (λ m. detecting (raw (words_of T) m)) sh) own-kind in
        let g : own-kind ≤ 10 = omega (arith, own) in
        rw own (pick_all P (leb own-kind 6) _ _ (λ t. refl) (λ t0.
        pick_all P (eqb own-kind 7) _ _ (λ t. eqb-true own-kind 7 t) (λ t1.
        pick_all P (eqb own-kind 8) _ _ (λ t. eqb-true own-kind 8 t) (λ t2.
        pick_all P (eqb own-kind 9) _ _ (λ t. eqb-true own-kind 9 t) (λ t3.
        pick_all P (eqb own-kind 10) _ _ (λ t. eqb-true own-kind 10 t) (λ t4.
        absurd (no_kind own-kind g (leb-false own-kind 6 t0) (eqb-false own-kind 7 t1) (eqb-false own-kind 8 t2) (eqb-false own-kind 9 t3) (eqb-false own-kind 10 t4))))))))

    -- a visit is its own step over what its kind says
    pub visit_inner : (level : ℕ) → level ≡ suc below → kind ≤ 10 → visit_of T mode level n s ≡ under kind (inner_in T mode below n s)
    unfolding inner_in
    visit_inner level e h = visit_step T mode n s level below e ∙ by_shape (look (words_of T) s) (look_kind h)

    pub visit_accepted : (level : ℕ) → level ≡ suc below → kind ≤ 10 → inner_in T mode below n s ≡ accepted → visit_of T mode level n s ≡ accepted
    visit_accepted level e h q = visit_inner level e h ∙ rw q

    -- a ref has none
    pub visit_ref : (level : ℕ) → level ≡ suc below → 10 < kind → visit_of T mode level n s ≡ ref_in T mode below n s
    unfolding look sort_shape raw visit_body ref_in
    visit_ref level e h =
        let g : 10 < schema_kind T.schemas s = omega (arith, own) in
        visit_step T mode n s level below e
        ∙ simp (lt-leb (schema_kind T.schemas s) 6 (omega arith), ne_eqb (schema_kind T.schemas s) 7 (λ z. omega arith), ne_eqb (schema_kind T.schemas s) 8 (λ z. omega arith), ne_eqb (schema_kind T.schemas s) 9 (λ z. omega arith), ne_eqb (schema_kind T.schemas s) 10 (λ z. omega arith))

    -- ---- leaves
    pub inner_boolean : (v : Verdict) → v ≡ boolean_verdict T.nodes n → kind ≡ 1 → inner_in T mode below n s ≡ verdict v s (note_in T mode s)
    unfolding inner_in look sort_shape raw own_of judge_of
    inner_boolean v q h = rw (q, sym own ∙ h)

    pub inner_number : (v : Verdict) → v ≡ number_verdict T.nodes T.numbers (own_words T.schemas s 2 14) n → kind ≡ 2 → inner_in T mode below n s ≡ verdict v s (note_in T mode s)
    unfolding inner_in look sort_shape raw own_of judge_of
    inner_number v q h = rw (q, sym own ∙ h)

    pub inner_string : (v : Verdict) → v ≡ string_verdict mode (answer_of_pattern T.pool T.texts T.patterns) T.pool T.texts T.nodes (own_words T.schemas s 2 14) n → kind ≡ 3 → inner_in T mode below n s ≡ verdict v s (note_in T mode s)
    unfolding inner_in look sort_shape raw own_of judge_of
    inner_string v q h = rw (q, sym own ∙ h)

    pub inner_null : (v : Verdict) → v ≡ null_verdict T.nodes n → kind ≡ 4 → inner_in T mode below n s ≡ verdict v s (note_in T mode s)
    unfolding inner_in look sort_shape raw own_of judge_of
    inner_null v q h = rw (q, sym own ∙ h)

    pub inner_enum : (v : Verdict) → v ≡ enum_verdict mode T.pool T.texts T.nodes T.links T.numbers (slice T.links (schema_word T.schemas s 2) (schema_word T.schemas s 3)) n → kind ≡ 5 → inner_in T mode below n s ≡ verdict v s (note_in T mode s)
    unfolding inner_in look sort_shape raw own_of judge_of
    inner_enum v q h = rw (q, sym own ∙ h)

    -- ---- what visits its parts
    pub inner_any : kind ≡ 7 → inner_in T mode below n s ≡ any_in T mode below n s
    unfolding inner_in look sort_shape raw any_in
    inner_any h = rw (sym own ∙ h)

    pub inner_all : kind ≡ 8 → inner_in T mode below n s ≡ all_in T mode below n s
    unfolding inner_in look sort_shape raw all_in
    inner_all h = rw (sym own ∙ h)

    pub inner_array : kind ≡ 9 → inner_in T mode below n s ≡ array_in T mode below n s
    unfolding inner_in look sort_shape raw array_in array_of
    inner_array h = rw (sym own ∙ h)

    pub inner_object : kind ≡ 10 → inner_in T mode below n s ≡ object_whole T mode below n s
    unfolding inner_in look sort_shape raw object_whole
    inner_object h = rw (sym own ∙ h)

    -- True and any
    pub inner_rest : kind ≤ 10 → (kind ≡ 1 → ⊥) → (kind ≡ 2 → ⊥) → (kind ≡ 3 → ⊥) → (kind ≡ 4 → ⊥) → (kind ≡ 5 → ⊥) → (kind ≡ 7 → ⊥) → (kind ≡ 8 → ⊥) → (kind ≡ 9 → ⊥) → (kind ≡ 10 → ⊥) → inner_in T mode below n s ≡ accepted
    unfolding inner_in look sort_shape raw own_of judge_of
    inner_rest h h1 h2 h3 h4 h5 h7 h8 h9 h10 =
        rw (← own) (simp (le-leb kind 6 (at_most_six kind h h7 h8 h9 h10), ne_eqb kind 1 h1, ne_eqb kind 2 h2, ne_eqb kind 3 h3, ne_eqb kind 4 h4, ne_eqb kind 5 h5, ne_eqb kind 9 h9))

-- ---- parts, from what the code reads
module _ (T : Tables) (mode : Mode) (below n s : ℕ) where
  -- array
  array_first : array_in T mode below n s ≡ and_then (verdict (array_verdict mode T.pool T.texts T.nodes T.links T.numbers (own_words T.schemas s 3 3) n) s (note_in T mode s)) (array_at (nodes_in T mode) (λ m. m) (visit_of T mode below) (optional (array_items T.schemas s)) n)
  unfolding array_in judge_of array_of
  array_first = refl

  module _ (v : Verdict) (e : v ≡ array_verdict mode T.pool T.texts T.nodes T.links T.numbers (own_words T.schemas s 3 3) n) where
    pub array-wrong : (st k : ℕ) (r : Visited) (x : Stop) → r ≡ told (verdict v s (note_in T mode s)) st k → r ≡ Err x → array_in T mode below n s ≡ verdict v s (note_in T mode s)
    array-wrong st k r x q h = array_first ∙ rw (← e) (verdict-stop v s (note_in T mode s) st k r q _ x h)

    array_fine : v ≡ fine → array_in T mode below n s ≡ array_at (nodes_in T mode) (λ m. m) (visit_of T mode below) (optional (array_items T.schemas s)) n
    array_fine h = array_first ∙ rw (← e, h)

    module _ (items : ℕ) (i : items ≡ array_items T.schemas s) (f : v ≡ fine) where
      pub array-free : items ≡ NONE → array_in T mode below n s ≡ accepted
      unfolding array_at
      array-free h = array_fine f ∙ rw (← i, h)

      pub array-items : (first count : ℕ) → (items ≡ NONE → ⊥) → first ≡ node_a T.nodes n → count ≡ node_b T.nodes n → array_in T mode below n s ≡ items_over (λ m. visit_of T mode below m items) 0 (slice T.links (first + 0) (count - 0))
      unfolding array_at items_of
      array-items first count h p q = array_fine f ∙ rw (← i, p, q) (simp (ne_eqb items NONE h)) ∙ items_begin T.links first count (λ m. visit_of T mode below m items)

  -- object
  required_over_lem : (ts : List ℕ) → required_over (nodes_in T mode) (λ m. m) s (object_in T mode s) n ts ≡ verdict (required_verdict T.pool T.texts T.nodes T.links (properties_first T.schemas s) (properties_count T.schemas s) n ts) s (note_in T mode s)
  unfolding required_over required_verdict missing object_of
  required_over_lem [] = refl
  required_over_lem (t ∷ ts) =
      required_one (has_key T.pool T.texts T.nodes T.links n t) _ _ _ _ (required_over_lem ts)
      (ap (number_or (nodes_in T mode) (λ (x : ℕ). x)) (find_property T.pool T.texts T.links (properties_first T.schemas s) t (properties_count T.schemas s)) ∙ or_found (nodes_in T mode) (property_of T.pool T.texts T.links (properties_first T.schemas s) (properties_count T.schemas s) t))
    where
      required_one : (b : Bool) (rest : Outcome) (v : Verdict) (x y : ℕ) → rest ≡ verdict v s (note_in T mode s) → x ≡ y → pick b rest (refused (made 2 n s (note_in T mode s) (Property t x))) ≡ verdict (pick b v (Err (Value reason.MissingProperty n (Property t y)))) s (note_in T mode s)
      required_one true rest v x y e p = e
      required_one false rest v x y e p = rw p

  object_first_lem : object_whole T mode below n s ≡ and_then (verdict (before_entries T.pool T.texts T.nodes T.schemas T.links s n) s (note_in T mode s)) (entries_over (nodes_in T mode) (λ m. m) (visit_of T mode below) s (object_in T mode s) n (entries_from T n 0 (node_b T.nodes n)))
  unfolding object_whole object_at before_entries object_of
  object_first_lem =
      rw (required_over_lem (slice T.links (required_first T.schemas s) (required_count T.schemas s)), verdict_first, verdict_first, and_and, and_and)

  module _ (v : Verdict) (e : v ≡ before_entries T.pool T.texts T.nodes T.schemas T.links s n) where
    pub object-wrong : (st k : ℕ) (r : Visited) (x : Stop) → r ≡ told (verdict v s (note_in T mode s)) st k → r ≡ Err x → object_whole T mode below n s ≡ verdict v s (note_in T mode s)
    object-wrong st k r x q h = object_first_lem ∙ rw (← e) (verdict-stop v s (note_in T mode s) st k r q _ x h)

    pub object_entries : (count : ℕ) → v ≡ fine → count ≡ node_b T.nodes n → object_whole T mode below n s ≡ entries_over (nodes_in T mode) (λ m. m) (visit_of T mode below) s (object_in T mode s) n (entries_from T n 0 count)
    object_entries count h p = object_first_lem ∙ rw (← e, h, p)

  -- the entries from entry i on
  unfoldable pub entries_left : ℕ → ℕ → Outcome
  entries_left i count = entries_over (nodes_in T mode) (λ m. m) (visit_of T mode below) s (object_in T mode s) n (entries_from T n i (count - i))

  pub object-start : (v : Verdict) (count : ℕ) → v ≡ before_entries T.pool T.texts T.nodes T.schemas T.links s n → v ≡ fine → count ≡ node_b T.nodes n → object_whole T mode below n s ≡ entries_left 0 count
  unfolding entries_left
  object-start v count e h p = object_entries v e count h p ∙ entries_begin (nodes_in T mode) T (visit_of T mode below) s (object_in T mode s) n count

  pub entries_none : (i count : ℕ) → count ≤ i → entries_left i count ≡ accepted
  unfolding entries_left
  entries_none i count h = entries_end (nodes_in T mode) T (visit_of T mode below) s (object_in T mode s) n count i h

  module _ (X : Outcome) (i count : ℕ) (x : X ≡ entries_left i count) (lt : i < count) (st k : ℕ) (a : Visited) (e : a ≡ told (entry_in T mode below n s i) st k) where
    entries_cut : X ≡ and_then (entry_in T mode below n s i) (entries_left (i + 1) count)
    unfolding entries_left entry_in
    entries_cut = x ∙ entries_step (nodes_in T mode) T (visit_of T mode below) s (object_in T mode s) n count i lt

    pub entries_stop : (y : Stop) → a ≡ Err y → X ≡ entry_in T mode below n s i
    entries_stop y h = entries_cut ∙ and_stop st k a (entry_in T mode below n s i) (entries_left (i + 1) count) y e h

    pub entries_more : a ≡ Ok tt → X ≡ entries_left (i + 1) count
    entries_more h = entries_cut ∙ and_go (entry_in T mode below n s i) (entries_left (i + 1) count) (is_accepted st k a (entry_in T mode below n s i) e h)

  pub entries_on : {X : Outcome} (i count : ℕ) → X ≡ entries_left i count → i < count → entry_in T mode below n s i ≡ accepted → X ≡ entries_left (i + 1) count
  unfolding entries_left entry_in
  entries_on i count x lt h =
      x ∙ entries_step (nodes_in T mode) T (visit_of T mode below) s (object_in T mode s) n count i lt ∙ and_go _ _ h

  -- one entry
  abbrev pub on_choice : ℕ → ℕ → Choice → Outcome
  on_choice t v (Part x) = place (key_step t) (visit_of T mode below v x)
  on_choice t v Closed = refused (made 3 n s (note_in T mode s) (Key t))
  on_choice t v Skip = accepted

  extra_choice : (o : Object ℕ) (t v : ℕ) (b : Bool) (more : ℕ) → extra_at (nodes_in T mode) (λ m. m) (visit_of T mode below) s o n t v (pick b none (some (more ∷ []))) false ≡ on_choice t v (pick b Skip (Part more))
  unfolding all_over
  extra_choice o t v true more = refl
  extra_choice o t v false more = ap (place (key_step t)) (and_accepted (visit_of T mode below v more))

  closed_choice : (o : Object ℕ) (t v : ℕ) (b : Bool) (more : ℕ) → o.note ≡ note_in T mode s → extra_at (nodes_in T mode) (λ m. m) (visit_of T mode below) s o n t v (pick (eqb more NONE) none (some (more ∷ []))) b ≡ on_choice t v (choice_of None b more)
  closed_choice o t v true more e = rw e
  closed_choice o t v false more e = extra_choice o t v (eqb more NONE) more

  property_choice : (t v : ℕ) (f : Found) → property_at (nodes_in T mode) (λ m. m) (visit_of T mode below) s (object_in T mode s) n t v (to_option f) ≡ on_choice t v (choice_of f (eqb (object_closed T.schemas s) 1) (additional_properties T.schemas s))
  unfolding object_of
  property_choice t v (Some x) = refl
  property_choice t v None = closed_choice (object_in T mode s) t v (eqb (object_closed T.schemas s) 1) (additional_properties T.schemas s) refl

  module _ (k key : ℕ) (e : key ≡ entry_key T.nodes T.links n k) where
    pub entry_skip : (node_kind T.nodes key ≡ 4 → ⊥) → entry_in T mode below n s k ≡ accepted
    unfolding entry_in entry_of
    entry_skip h = rw (← e) (simp (ne_eqb _ _ h))

    pub entry_choice : (t : ℕ) → node_kind T.nodes key ≡ 4 → t ≡ node_a T.nodes key → entry_in T mode below n s k ≡ on_choice t (entry_value T.nodes T.links n k) (chosen_in T.pool T.texts T.schemas T.links s t)
    unfolding entry_in entry_of chosen_in object_of
    entry_choice t h q =
        rw (← e) (simp (eq-eqb _ _ h) (rw (← q, find_property T.pool T.texts T.links (properties_first T.schemas s) t (properties_count T.schemas s))
        (property_choice t (entry_value T.nodes T.links n k) (property_of T.pool T.texts T.links (properties_first T.schemas s) (properties_count T.schemas s) t))))

    module _ (t : ℕ) (h : node_kind T.nodes key ≡ 4) (q : t ≡ node_a T.nodes key) (c : Choice) (w : c ≡ chosen_in T.pool T.texts T.schemas T.links s t) where
      pub entry_free : c ≡ Skip → entry_in T mode below n s k ≡ accepted
      entry_free z = entry_choice t h q ∙ rw (sym w ∙ z)

      pub entry_closed : c ≡ Closed → entry_in T mode below n s k ≡ refused (made 3 n s (note_in T mode s) (Key t))
      entry_closed z = entry_choice t h q ∙ rw (sym w ∙ z)

      pub entry_part : (v x : ℕ) → v ≡ entry_value T.nodes T.links n k → c ≡ Part x → entry_in T mode below n s k ≡ part_in T mode below v x 0 t
      unfolding part_in
      entry_part v x r z = entry_choice t h q ∙ rw (sym w ∙ z, r)

  -- one step down
  pub part_is : (tag word : ℕ) → part_in T mode below n s tag word ≡ place (step_of tag word) (visit_of T mode below n s)
  unfolding part_in
  part_is tag word = refl

  pub part_accepted : (tag word : ℕ) → visit_of T mode below n s ≡ accepted → part_in T mode below n s tag word ≡ accepted
  unfolding part_in
  part_accepted tag word h = rw h

  -- lists
  pub any_list : (first count : ℕ) → first ≡ list_first T.schemas s → count ≡ list_count T.schemas s → any_in T mode below n s ≡ any_over (visit_of T mode below n) none (slice T.links (first + 0) (count - 0))
  unfolding any_in
  any_list first count p q = rw (p, q) (any_begin T.links (list_first T.schemas s) (list_count T.schemas s) (visit_of T mode below n))

  pub all_list : (first count : ℕ) → first ≡ list_first T.schemas s → count ≡ list_count T.schemas s → all_in T mode below n s ≡ all_over (visit_of T mode below n) (slice T.links (first + 0) (count - 0))
  unfolding all_in
  all_list first count p q = rw (p, q) (all_begin T.links (list_first T.schemas s) (list_count T.schemas s) (visit_of T mode below n))

  -- ref
  found_in : (t : ℕ) (f : Found) → f ≡ resolve_of T.pool T.texts T.registry t → find_in T t ≡ to_option f
  unfolding find_in
  found_in t f e = rw e

  module _ (t : ℕ) (f : Found) (p : t ≡ ref_text T.schemas s) (e : f ≡ resolve_of T.pool T.texts T.registry t) where
    pub ref_found : (x : ℕ) → f ≡ Some x → ref_in T mode below n s ≡ visit_of T mode below n x
    unfolding ref_in
    ref_found x h = rw (← p, found_in t f e, h)

    pub ref_lost : f ≡ None → ref_in T mode below n s ≡ refused (made 12 n s (note_in T mode s) (Reference t))
    unfolding ref_in
    ref_lost h = rw (← p, found_in t f e, h)

-- ---- an array's items, one step down each
module _ (T : Tables) (mode : Mode) (below items : ℕ) (L : List ℕ) (first count i part : ℕ) (lt : i < count) (p : part ≡ get_or L (first + i) 0) (st k : ℕ) (a : Visited) (X : Outcome) (x : X ≡ items_over (λ m. visit_of T mode below m items) i (slice L (first + i) (count - i))) (e : a ≡ told (part_in T mode below part items 1 i) st k) where
  pub items-stop : (y : Stop) → a ≡ Err y → X ≡ part_in T mode below part items 1 i
  unfolding part_in
  items-stop y h = stop L first count i part lt p (λ m. visit_of T mode below m items) st k a X y x e h

  pub items_more : a ≡ Ok tt → X ≡ items_over (λ m. visit_of T mode below m items) (i + 1) (slice L (first + (i + 1)) (count - (i + 1)))
  unfolding part_in
  items_more h = more L first count i part lt p (λ m. visit_of T mode below m items) st k a X x e h

module _ (T : Tables) (mode : Mode) (below items : ℕ) (L : List ℕ) (first count i part : ℕ) (lt : i < count) (p : part ≡ get_or L (first + i) 0) (X : Outcome) (x : X ≡ items_over (λ m. visit_of T mode below m items) i (slice L (first + i) (count - i))) where
  pub items_on : visit_of T mode below part items ≡ accepted → X ≡ items_over (λ m. visit_of T mode below m items) (i + 1) (slice L (first + (i + 1)) (count - (i + 1)))
  items_on h = items_more T mode below items L first count i part lt p 0 0 (Ok tt) X x (sym (ap (λ (o : Outcome). told o 0 0) (part_accepted T mode below part items 1 i h))) refl
