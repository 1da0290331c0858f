-- What is accepted at a glance: a schema without parts, an entry, an object. Assumes nothing.
use Prim.Native.Nat.{ℕ, ◌+◌, ◌-◌, ◌≤◌, ◌<◌}
use mathlib.Core.Path.{◌≡◌, refl, sym, ap, subst, ◌∙◌}
use mathlib.Core.Bool.{Bool, true, false, true≢false}
use mathlib.Core.List.{List}
use native.Mathlib.Omega.{arith}
use lib.Dec.{eqb, ltb}
use borrow.Author.Tests.{eq-eqb, ne_eqb, eqb-true}
use Rattle.text.specs.Choice.{both, either, pick, both_left, both_right}
use Rattle.error.specs.declared.Mode.{Mode}
use Rattle.layout.specs.Layout.{Tables, node_kind, node_a, node_b, schema_kind, schema_word, properties_first, properties_count, pair_value}
use Rattle.lookup.specs.Find.{Found}
use Rattle.std.specs.Prelude.{Some, None}
use Rattle.lookup.specs.Lookup.{entry_key, entry_value, property_place, property_of, answer_of_pattern}
use Rattle.judge.specs.Judge.{Verdict, is_fine, key_text, keys_verdict, before_entries, number_verdict, string_verdict, enum_verdict}
use Rattle.schema.specs.Look.{slice, own_words}
use Rattle.glance.specs.Glance.{Passes, PassesBut}
use Rattle.glance.proofs.Says.{is_fine_lem}
use Rattle.glance.proofs.Order.{InOrder, order_begin, order_more, order_end}
use Rattle.validator.specs.declared.walk.Choice.TheVariants.{Part}
use Rattle.validator.specs.Outcome.{Outcome, accepted, verdict}
use Rattle.validator.specs.Visit.{entries_over}
use Rattle.validator.specs.Nodes.{entries_from}
use Rattle.validator.specs.Validate.{visit_of}
use Rattle.validator.specs.Met.{Accepts, AcceptsAll, entry_place, chosen_in, nodes_in, object_in, note_in, inner_in, entry_in, entries_in, object_whole}
use Rattle.validator.proofs.Early.{level_over}
use Rattle.validator.proofs.Loops.{entries_begin}
use Rattle.validator.proofs.ByKind.{visit_accepted, inner_number, inner_string, inner_enum, inner_object, object_entries, entries_left, entries_on, entries_none, entry_part, part_accepted}

-- ---- places
module _ (pool texts nodes schemas links : List ℕ) (n s k : ℕ) where
  place : Found
  place = property_place pool texts links (properties_first schemas s) (properties_count schemas s) (key_text nodes links n k)

  pub place_other : {key kind : ℕ} → key ≡ entry_key nodes links n k → kind ≡ node_kind nodes key → (kind ≡ 4 → ⊥) → None ≡ entry_place pool texts nodes schemas links n s k
  unfolding entry_place
  place_other e q h = rw (ne_eqb (node_kind nodes (entry_key nodes links n k)) 4 (λ z. h (q ∙ ap (node_kind nodes) e ∙ z)))

  pub place_string : {key kind first count t : ℕ} {f : Found} → key ≡ entry_key nodes links n k → kind ≡ node_kind nodes key → kind ≡ 4 → first ≡ properties_first schemas s → count ≡ properties_count schemas s → t ≡ node_a nodes key → f ≡ property_place pool texts links first count t → f ≡ entry_place pool texts nodes schemas links n s k
  unfolding entry_place
  place_string e q h a b c g =
      g ∙ rw (a, b, c, e, eq-eqb (node_kind nodes (entry_key nodes links n k)) 4 (ap (node_kind nodes) (sym e) ∙ sym q ∙ h))

  -- a place is found for a string key alone
  found_string : (b : Bool) (f : Found) (p : ℕ) → pick b f None ≡ Some p → b ≡ true
  found_string true f p h = refl
  found_string false f p h = absurd (let z : ◌≡◌ {A = ℕ} 0 1 = cc in omega arith)

  module _ {p : ℕ} (h : entry_place pool texts nodes schemas links n s k ≡ Some p) where
    pub placed_string : node_kind nodes (entry_key nodes links n k) ≡ 4
    unfolding entry_place place
    placed_string = eqb-true _ _ (found_string (eqb (node_kind nodes (entry_key nodes links n k)) 4) place p h)

    pub placed_at : property_place pool texts links (properties_first schemas s) (properties_count schemas s) (key_text nodes links n k) ≡ Some p
    unfolding entry_place
    placed_at = rw (eq-eqb (node_kind nodes (entry_key nodes links n k)) 4 placed_string) at h

    pub placed_part : {part : ℕ} → part ≡ pair_value links (properties_first schemas s) p → Part part ≡ chosen_in pool texts schemas links s (key_text nodes links n k)
    unfolding chosen_in property_of
    placed_part e = rw (placed_at, e)

-- ---- schemas without parts
module _ (T : Tables) (mode : Mode) (level n s kind : ℕ) (over : level ≡ 0 → ⊥) (own : kind ≡ schema_kind T.schemas s) (r : Bool) where
  by_glance : (v : Verdict) → Passes r v → kind ≤ 10 → inner_in T mode (level - 1) n s ≡ verdict v s (note_in T mode s) → Accepts r (visit_of T mode level n s)
  unfolding Accepts Passes
  by_glance v p h q t =
      visit_accepted T mode (level - 1) n s kind own level (level_over level over) h (q ∙ ap (λ (x : Verdict). verdict x s (note_in T mode s)) (p t))

  pub glance_number : Passes r (number_verdict T.nodes T.numbers (own_words T.schemas s 2 14) n) → kind ≡ 2 → Accepts r (visit_of T mode level n s)
  glance_number p h = by_glance _ p (omega (arith, h)) (inner_number T mode (level - 1) n s kind own _ refl h)

  pub glance_string : Passes r (string_verdict mode (answer_of_pattern T.pool T.texts T.patterns) T.pool T.texts T.nodes (own_words T.schemas s 2 14) n) → kind ≡ 3 → Accepts r (visit_of T mode level n s)
  glance_string p h = by_glance _ p (omega (arith, h)) (inner_string T mode (level - 1) n s kind own _ refl h)

  pub glance_enum : Passes r (enum_verdict mode T.pool T.texts T.nodes T.links T.numbers (slice T.links (schema_word T.schemas s 2) (schema_word T.schemas s 3)) n) → kind ≡ 5 → Accepts r (visit_of T mode level n s)
  glance_enum p h = by_glance _ p (omega (arith, h)) (inner_enum T mode (level - 1) n s kind own _ refl h)

  -- an object, from what its parts leave
  pub glance_object : Accepts r (object_whole T mode (level - 1) n s) → kind ≡ 10 → Accepts r (visit_of T mode level n s)
  unfolding Accepts
  glance_object p h t =
      visit_accepted T mode (level - 1) n s kind own level (level_over level over) (omega (arith, h)) (inner_object T mode (level - 1) n s kind own h ∙ p t)

-- ---- entries and objects
module _ (T : Tables) (mode : Mode) (below n s : ℕ) where
  pub entry_at_once : (k : ℕ) {p part value : ℕ} {f : Found} → f ≡ entry_place T.pool T.texts T.nodes T.schemas T.links n s k → f ≡ Some p → part ≡ pair_value T.links (properties_first T.schemas s) p → value ≡ entry_value T.nodes T.links n k → visit_of T mode below value part ≡ accepted → entry_in T mode below n s k ≡ accepted
  entry_at_once k {p} {part} {value} e h q v a =
      let at : entry_place T.pool T.texts T.nodes T.schemas T.links n s k ≡ Some p = sym e ∙ h in
      entry_part T mode below n s k (entry_key T.nodes T.links n k) refl (key_text T.nodes T.links n k) (placed_string _ _ _ _ _ _ _ _ at) refl (Part part) (placed_part _ _ _ _ _ _ _ _ at q) value part v refl
      ∙ part_accepted T mode below value part 0 (key_text T.nodes T.links n k) a

  -- the first k entries are accepted; while `ordered` holds their keys are in order
  pub record Gone (count : ℕ) (ordered : Bool) (last k : ℕ) : Type 0 where
    pub within : k ≤ count
    pub left : entries_in T mode below n s ≡ entries_left T mode below n s k count
    pub order : ordered ≡ true → InOrder T.pool T.texts T.nodes T.links n (properties_first T.schemas s) (properties_count T.schemas s) k last

  start : (count : ℕ) → count ≡ node_b T.nodes n → entries_in T mode below n s ≡ entries_left T mode below n s 0 count
  unfolding entries_in entries_left
  start count e =
      ap (λ (m : ℕ). entries_over (nodes_in T mode) (λ x. x) (visit_of T mode below) s (object_in T mode s) n (entries_from T n 0 m)) (sym e)
      ∙ entries_begin (nodes_in T mode) T (visit_of T mode below) s (object_in T mode s) n count

  pub gone_begin : (count : ℕ) → count ≡ node_b T.nodes n → Gone count true 0 0
  gone_begin count e = record { within = omega arith; left = start count e; order = λ h. order_begin _ _ _ _ _ _ _ 0 }

  module _ {count : ℕ} {ordered : Bool} {last k : ℕ} (g : Gone count ordered last k) where
    pub gone_more : {p part value : ℕ} {f : Found} {r o : Bool} → k < count → f ≡ entry_place T.pool T.texts T.nodes T.schemas T.links n s k → f ≡ Some p → part ≡ pair_value T.links (properties_first T.schemas s) p → value ≡ entry_value T.nodes T.links n k → Accepts r (visit_of T mode below value part) → r ≡ true → o ≡ both ordered (either (eqb k 0) (ltb last p)) → Gone count o p (k + 1)
    unfolding Accepts
    gone_more {p} lt e h q v a t u =
        record {
          within = omega arith;
          left = entries_on T mode below n s k count g.left lt (entry_at_once k e h q v (a t));
          order = λ z. order_more _ _ _ _ _ _ _ k last p (g.order (both_left ordered (either (eqb k 0) (ltb last p)) (sym u ∙ z))) (placed_at _ _ _ _ _ _ _ _ (sym e ∙ h)) (both_right ordered (either (eqb k 0) (ltb last p)) (sym u ∙ z));
        }

    module _ (all : count ≡ node_b T.nodes n) (done : count ≤ k) where
      last_one : k ≡ node_b T.nodes n
      last_one = let w = g.within in omega (arith, all)

      accepted_all : entries_in T mode below n s ≡ accepted
      accepted_all = g.left ∙ entries_none T mode below n s k count done

      pub gone_ordered : ordered ≡ true → AcceptsAll true (keys_verdict T.pool T.texts T.nodes T.links n) (entries_in T mode below n s)
      unfolding AcceptsAll
      gone_ordered h t =
          (order_end _ _ _ _ _ _ _ last (subst (λ (m : ℕ). InOrder T.pool T.texts T.nodes T.links n (properties_first T.schemas s) (properties_count T.schemas s) m last) last_one (g.order h)), accepted_all)

      pub gone_judged : (v : Verdict) {r : Bool} → v ≡ keys_verdict T.pool T.texts T.nodes T.links n → r ≡ is_fine v → AcceptsAll r (keys_verdict T.pool T.texts T.nodes T.links n) (entries_in T mode below n s)
      unfolding AcceptsAll
      gone_judged v e q t = (sym e ∙ is_fine_lem v (sym q ∙ t), accepted_all)

  pub object_at_once : (r : Bool) {b : Bool} → PassesBut b (keys_verdict T.pool T.texts T.nodes T.links n) (before_entries T.pool T.texts T.nodes T.schemas T.links s n) → b ≡ true → AcceptsAll r (keys_verdict T.pool T.texts T.nodes T.links n) (entries_in T mode below n s) → Accepts r (object_whole T mode below n s)
  unfolding Accepts AcceptsAll PassesBut entries_in
  object_at_once r p g a t = object_entries T mode below n s _ refl (node_b T.nodes n) (p g (a t).0) refl ∙ (a t).1

pub all_nothing : (v : Verdict) (o : Outcome) → AcceptsAll false v o
unfolding AcceptsAll
all_nothing v o h = absurd (true≢false (sym h))
