-- The members of the cycle, against the definitions.
use Prim.Native.Nat.{ℕ, zero, suc, ◌+◌, ◌-◌, ◌*◌, ◌≤◌, ◌<◌}
use mathlib.Core.Path.{◌≡◌, refl, sym, ap, ◌∙◌, subst}
use mathlib.Core.Bool.{Bool, true, false}
use mathlib.Core.List.{List, [], ◌∷◌, ◌++◌, append_assoc, append-nil}
use native.Mathlib.Omega.{arith}
use native.Mathlib.Nat.{add-mul}
use native.Mathlib.Numerals.{add-one}
use lib.ListN.{length, get_or, take, set, length-set}
use lib.Seq.{take-set-le, get_or-set_same}
use lib.Dec.{leb}
use borrow.Author.Tests.{eq-eqb, ne_eqb, leb-false}
use Rattle.text.specs.Choice.{pick}
use Rattle.layout.specs.Layout.{schema_word}
use Rattle.layout.specs.Rows.{list_row}
use Rattle.lookup.specs.Lookup.{resolve_of}
use Rattle.compilation.specs.State.{Source, State, Out, done, refused, Outs, many, stop, source_of, state_of}
use Rattle.derive.specs.Meets.{Told, out_of, Ready, Ran, Built, Finished}
use Rattle.put.specs.Meets.{Listed}
use Rattle.build.specs.Meets.{ToldMany, outs_of, One, Each, Perhaps}
use Rattle.put.specs.Chase.{chase_in, chase_at, is_fresh, num, next, weave_at, top_at}
use Rattle.compilation.specs.Table.{is_eager, is_built, on_found, field, span, after, each_over, group_at, array_at, perhaps_at, node_at, compile_at}
use Rattle.error.specs.declared.Used.{Used}
use Rattle.lookup.specs.Find.{Found}
use Rattle.std.specs.Prelude.{Some, None, Result, Ok, Err}
use Rattle.error.specs.declared.Failure.{Failure}
use Rattle.put.specs.declared.Lead.{Lead}
use Rattle.error.specs.declared.Failure.TheVariants.{WrongNumber, UnknownReference}
use Rattle.error.specs.Answers.{number_of}
use Rattle.put.specs.declared.Lead.TheVariants.{Leaf, Node}
pub use Rattle.derive.proofs.Build.{out-done, out-refused, ran-none, source_same, links-done, links_full, refused-built, built_is, number_some, ran_back, built_back, built_told}
use Rattle.merge.proofs.Lists.{part_same, span-length}
use Rattle.derive.proofs.Rows.{finish_built}
pub use Rattle.put.proofs.Laid.{listed_small}
use Rattle.put.proofs.Weave.{span_snoc, weave_length, weave_snoc, weave_kept, top_snoc, next_least}

-- answers
pub outs-many : (r : ToldMany) (N S L ns : List ℕ) → r.no ≡ 0 → outs_of r N S L ns ≡ many (state_of r.used N S L) ns
unfolding outs_of
outs-many r N S L ns h = rw (eq-eqb r.no 0 h)

pub outs-stop : (r : ToldMany) (N S L ns : List ℕ) → (r.no ≡ 0 → ⊥) → outs_of r N S L ns ≡ stop r.no
unfolding outs_of
outs-stop r N S L ns h = rw (ne_eqb r.no 0 h)

-- where a schema leads decides what compiling it gives
abbrev on_lead : Result Lead Failure → (ℕ → Out) → (ℕ → Out) → (ℕ → ℕ → Out) → Out
on_lead (Ok (Leaf n)) f g h = f n
on_lead (Err failure) f g h = g (number_of failure)
on_lead (Ok (Node t j)) f g h = h t j

module _ (C : Source) where
  abbrev Follows : ℕ → State → Result Lead Failure → Out
  Follows k st c = on_lead c (done st) refused (λ t j. node_at C (compile_at C j) st t)

  found_step : (k : ℕ) (st : State) (F : Found) → ((t : ℕ) → compile_at C k st t ≡ Follows k st (chase_at C k t)) → on_found F (compile_at C k st) (refused 32) ≡ Follows k st (on_found F (chase_at C k) (Err UnknownReference))
  found_step k st (Some t) h = h t
  found_step k st None h = refl

  built-step : (k : ℕ) (st : State) (s : ℕ) (d e b : Bool) (F : Found) → ((t : ℕ) → compile_at C k st t ≡ Follows k st (chase_at C k t)) → pick d (refused 21) (pick e (on_found F (compile_at C k st) (refused 32)) (pick b (node_at C (compile_at C k) st s) (done st s))) ≡ Follows k st (pick d (Err WrongNumber) (pick e (on_found F (chase_at C k) (Err UnknownReference)) (pick b (Ok (Node s k)) (Ok (Leaf s)))))
  built-step k st s true e b F h = refl
  built-step k st s false true b F h = found_step k st F h
  built-step k st s false false true F h = refl
  built-step k st s false false false F h = refl

  pub compile_lead : (k : ℕ) (st : State) (s : ℕ) → compile_at C k st s ≡ Follows k st (chase_at C k s)
  unfolding compile_at chase_at chase_in
  compile_lead zero st s = refl
  compile_lead (suc k) st s =
      built-step k st s (leb C.count s) (is_eager C.schemas s) (is_built (schema_word C.schemas s 0)) (resolve_of C.pool C.texts C.registry (schema_word C.schemas s 2)) (λ t. compile_lead k st t)

  -- a leaf is a record of the source and is not built, and a record that is built has fewer levels below it
  abbrev Sane : ℕ → Result Lead Failure → Type 0
  Sane k (Ok (Leaf n)) = (n < C.count) × (is_built (schema_word C.schemas n 0) ≡ false)
  Sane k (Err failure) = Unit {0}
  Sane k (Ok (Node t j)) = j < k

  sane_more : (k : ℕ) (c : Result Lead Failure) → Sane k c → Sane (suc k) c
  sane_more k (Ok (Leaf n)) h = h
  sane_more k (Err failure) h = h
  sane_more k (Ok (Node t j)) h = omega arith

  sane_found : (k : ℕ) (F : Found) → ((t : ℕ) → Sane k (chase_at C k t)) → Sane (suc k) (on_found F (chase_at C k) (Err UnknownReference))
  sane_found k (Some t) h = sane_more k (chase_at C k t) (h t)
  sane_found k None h = tt

  sane_step : (k s : ℕ) (d e b : Bool) (F : Found) → leb C.count s ≡ d → is_built (schema_word C.schemas s 0) ≡ b → ((t : ℕ) → Sane k (chase_at C k t)) → Sane (suc k) (pick d (Err WrongNumber) (pick e (on_found F (chase_at C k) (Err UnknownReference)) (pick b (Ok (Node s k)) (Ok (Leaf s)))))
  sane_step k s true e b F x y h = tt
  sane_step k s false true b F x y h = sane_found k F h
  sane_step k s false false true F x y h = omega arith
  sane_step k s false false false F x y h = (leb-false C.count s x, y)

  pub chase_sane : (k s : ℕ) → Sane k (chase_at C k s)
  unfolding chase_at chase_in
  chase_sane zero s = tt
  chase_sane (suc k) s =
      sane_step k s (leb C.count s) (is_eager C.schemas s) (is_built (schema_word C.schemas s 0)) (resolve_of C.pool C.texts C.registry (schema_word C.schemas s 2)) refl refl (λ t. chase_sane k t)

  pub leaf_sane : (k s n : ℕ) → chase_at C k s ≡ Ok (Leaf n) → (n < C.count) × (is_built (schema_word C.schemas n 0) ≡ false)
  leaf_sane k s n e = subst (Sane k) e (chase_sane k s)

  pub node_below : (k s t j : ℕ) → chase_at C k s ≡ Ok (Node t j) → j < k
  node_below k s t j e = subst (Sane k) e (chase_sane k s)

-- numbers before the rest
abbrev ahead : List ℕ → Outs → Outs
ahead ns (many st ms) = many st (ns ++ ms)
ahead ns (stop k) = stop k

ahead_none : (o : Outs) → ahead [] o ≡ o
ahead_none (many st ns) = refl
ahead_none (stop k) = refl

ahead_after : (ns : List ℕ) (n : ℕ) (o : Outs) → ahead ns (after n o) ≡ ahead (ns ++ (n ∷ [])) o
ahead_after ns n (many st ms) = ap (many st) (sym (append_assoc ns (n ∷ []) ms))
ahead_after ns n (stop k) = refl

-- the stack
pushed_value : (c : Result Lead Failure) (fresh : Bool) (X : List ℕ) (top n : ℕ) → fresh ≡ is_fresh c → num c n ≡ n → (fresh ≡ true → top < length X) → num c (get_or (pick fresh (set X top n) X) top 0) ≡ n
unfolding num
pushed_value (Ok (Leaf m)) fresh X top n f e h = e
pushed_value (Err failure) fresh X top n f e h = rw f (get_or-set_same X top n 0 (h f))
pushed_value (Ok (Node t j)) fresh X top n f e h = rw f (get_or-set_same X top n 0 (h f))

pushed_kept : (fresh : Bool) (X : List ℕ) (top n : ℕ) → take top (pick fresh (set X top n) X) ≡ take top X
pushed_kept true X top n = take-set-le top X top n (omega arith)
pushed_kept false X top n = refl

pushed_long : (fresh : Bool) (X : List ℕ) (top n : ℕ) → length (pick fresh (set X top n) X) ≡ length X
pushed_long true X top n = length-set X top n
pushed_long false X top n = refl

next_bound : (fresh : Bool) (top us us' : ℕ) → top ≤ us → us ≤ us' → (fresh ≡ true → us < us') → next fresh top ≤ us'
unfolding next
next_bound true top us us' a b h = omega (arith, h refl)
next_bound false top us us' a b h = omega arith

-- `each` after i turns
pub record Going (C₀ C : Source) (below : ℕ) (b used u : Used) (st₀ st : State) (X₀ X : List ℕ) (at step count sp i q top : ℕ) : Type 0 where
  pub turn : i ≤ count
  pub place : q ≡ at + i * step
  pub reach : q ≤ at + i * 2
  pub short : step ≤ 2
  pub ran : Ran C₀ C used u X₀ X sp
  pub ready : Ready b u X top
  pub low : sp ≤ top
  pub long : length X ≡ length X₀
  pub topped : top ≡ top_at (chase_at C₀ below) (span C₀.links at step i) sp
  pub rest : each_over (compile_at C₀ below) st₀ (span C₀.links at step count) ≡ ahead (weave_at (chase_at C₀ below) (span C₀.links at step i) X sp) (each_over (compile_at C₀ below) st (span C₀.links q step (count - i)))

pub going_none : (C : Source) (below : ℕ) (b u : Used) (st : State) (X : List ℕ) (at step count sp : ℕ) → Ready b u X sp → step ≤ 2 → Going C C below b u u st st X X at step count sp 0 at sp
unfolding span weave_at top_at
going_none C below b u st X at step count sp r h =
    let z : count - 0 ≡ count = omega arith in
    record {
      turn = omega arith;
      place = omega arith;
      reach = omega arith;
      short = h;
      ran = ran-none C u X sp r.most;
      ready = r;
      low = omega arith;
      long = refl;
      topped = refl;
      rest = rw z (sym (ahead_none (each_over (compile_at C below) st (span C.links at step count))));
    }

module _ (C₀ C : Source) (below : ℕ) (b used u : Used) (st₀ st : State) (X₀ X : List ℕ) (at step count sp i q top : ℕ) (g : Going C₀ C below b used u st₀ st X₀ X at step count sp i q top) where
  module _ (lt : i < count) (s : ℕ) (e : s ≡ get_or C.links q 0) (r : Told) (C' : Source) (N S L X' : List ℕ) (o : One C C' below s st u N S L X X' top r) where
    answer_at : compile_at C₀ below st s ≡ out_of r N S L
    answer_at = sym (o.answer ∙ ap (λ (D : Source). compile_at D below st s) g.ran.source)

    s_at : s ≡ get_or C₀.links q 0
    s_at = e ∙ ap (λ (D : Source). get_or D.links q 0) g.ran.source

    left : count - i ≡ suc (count - (i + 1))
    left = omega arith

    pub going_free : r.no ≡ 0 → length X' ≡ length X → r.fresh ≡ true → top < length X'
    going_free z l f = omega (arith, g.ready.top, g.ready.long, o.rise z f, o.ran.most)

    pub going_more : r.no ≡ 0 → length X' ≡ length X → (Y : List ℕ) (top' : ℕ) → Y ≡ pick r.fresh (set X' top r.rec) X' → top' ≡ next r.fresh top → Going C₀ C' below b used r.used st₀ (state_of r.used N S L) X₀ Y at step count sp (i + 1) (q + step) top'
    unfolding span each_over
    going_more z l Y top' y t =
        let f = chase_at C₀ below in
        let go = compile_at C₀ below in
        let Q = C₀.links in
        let ss = span Q at step i in
        let p : (i + 1) * step ≡ i * step + step = omega (arith, add-mul i 1 step) in
        let fr : r.fresh ≡ is_fresh (f s) = o.fresh z ∙ ap (λ (D : Source). is_fresh (chase_at D below s)) g.ran.source in
        let nm : num (f s) r.rec ≡ r.rec = ap (λ (D : Source). num (chase_at D below s) r.rec) (sym g.ran.source) ∙ o.number z in
        let kept : take top Y ≡ take top X = ap (take top) y ∙ pushed_kept r.fresh X' top r.rec ∙ o.ran.stack in
        let items : span Q at step (i + 1) ≡ ss ++ (s ∷ []) = rw (add-one i) (span_snoc Q at step i) ∙ ap (λ (k : ℕ). ss ++ (k ∷ [])) (ap (λ (k : ℕ). get_or Q k 0) (sym g.place) ∙ sym s_at) in
        let value : num (f s) (get_or Y (top_at f ss sp) 0) ≡ r.rec = ap (λ (k : ℕ). num (f s) (get_or Y k 0)) (sym g.topped) ∙ ap (λ (l : List ℕ). num (f s) (get_or l top 0)) y ∙ pushed_value (f s) r.fresh X' top r.rec fr nm (going_free z l) in
        let woven : weave_at f (span Q at step (i + 1)) Y sp ≡ weave_at f ss X sp ++ (r.rec ∷ []) = ap (λ (l : List ℕ). weave_at f l Y sp) items ∙ weave_snoc f ss s Y sp ∙ ap (λ (l : List ℕ). l ++ (num (f s) (get_or Y (top_at f ss sp) 0) ∷ [])) (weave_kept f ss Y X sp top (omega (arith, g.topped)) kept) ∙ ap (λ (k : ℕ). weave_at f ss X sp ++ (k ∷ [])) value in
        let turned : each_over go st (span Q q step (count - i)) ≡ after r.rec (each_over go (state_of r.used N S L) (span Q (q + step) step (count - (i + 1)))) = rw (left, ← s_at, answer_at, out-done r N S L z) in
        record {
          turn = omega arith;
          place = omega (arith, g.place);
          reach = omega (arith, g.reach, g.short);
          short = g.short;
          ran =
              record {
                source = o.ran.source ∙ g.ran.source;
                stack = part_same sp top Y X g.low kept ∙ g.ran.stack;
                long = ap length y ∙ pushed_long r.fresh X' top r.rec ∙ l ∙ g.long;
                notes = omega (arith, g.ran.notes, o.ran.notes);
                schemas = omega (arith, g.ran.schemas, o.ran.schemas);
                links = omega (arith, g.ran.links, o.ran.links);
                most = o.ran.most;
              };
          ready =
              record {
                notes = omega (arith, g.ready.notes, o.ran.notes);
                schemas = omega (arith, g.ready.schemas, o.ran.schemas);
                links = omega (arith, g.ready.links, o.ran.links);
                most = o.ran.most;
                top = omega (arith, t, next_bound r.fresh top u.schemas r.used.schemas g.ready.top o.ran.schemas (o.rise z));
                long = omega (arith, ap length y, pushed_long r.fresh X' top r.rec, g.ready.long);
              };
          low = omega (arith, t, next_least r.fresh top, g.low);
          long = ap length y ∙ pushed_long r.fresh X' top r.rec ∙ l ∙ g.long;
          topped = t ∙ ap (λ (x : Bool). next x top) fr ∙ ap (λ (k : ℕ). next (is_fresh (f s)) k) g.topped ∙ sym (top_snoc f ss s sp) ∙ ap (λ (l : List ℕ). top_at f l sp) (sym items);
          rest = g.rest ∙ ap (ahead (weave_at f ss X sp)) turned ∙ ahead_after (weave_at f ss X sp) r.rec (each_over go (state_of r.used N S L) (span Q (q + step) step (count - (i + 1)))) ∙ ap (λ (l : List ℕ). ahead l (each_over go (state_of r.used N S L) (span Q (q + step) step (count - (i + 1))))) (sym woven);
        }

    pub going_stop : (r.no ≡ 0 → ⊥) → Each C₀ C' below st₀ (span C₀.links at step count) used N S L X₀ X' sp (record { no = r.no; used = u; top = top })
    unfolding span each_over
    going_stop z =
        let turned : each_over (compile_at C₀ below) st (span C₀.links q step (count - i)) ≡ stop r.no = rw (left, ← s_at, answer_at, out-refused r N S L z) in
        record {
          answer = outs-stop (record { no = r.no; used = u; top = top }) N S L (weave_at (chase_at C₀ below) (span C₀.links at step count) X' sp) z ∙ sym (g.rest ∙ ap (ahead (weave_at (chase_at C₀ below) (span C₀.links at step i) X sp)) turned);
          ran =
              record {
                source = o.ran.source ∙ g.ran.source;
                stack = part_same sp top X' X g.low o.ran.stack ∙ g.ran.stack;
                long = o.ran.long ∙ g.ran.long;
                notes = g.ran.notes;
                schemas = g.ran.schemas;
                links = g.ran.links;
                most = g.ran.most;
              };
          top = λ q. absurd (z q);
          low = λ q. absurd (z q);
        }

pub going_end : (C₀ C : Source) (below : ℕ) (b used u : Used) (st₀ : State) (N S L X₀ X : List ℕ) (at step count sp i q top : ℕ) → Going C₀ C below b used u st₀ (state_of u N S L) X₀ X at step count sp i q top → count ≤ i → Each C₀ C below st₀ (span C₀.links at step count) used N S L X₀ X sp (record { no = 0; used = u; top = top })
unfolding span each_over
going_end C₀ C below b used u st₀ N S L X₀ X at step count sp i q top g h =
    let n : count - i ≡ 0 = omega arith in
    let j : i ≡ count = omega (arith, g.turn) in
    let f = chase_at C₀ below in
    let turned : each_over (compile_at C₀ below) (state_of u N S L) (span C₀.links q step (count - i)) ≡ many (state_of u N S L) [] = rw n in
    record {
      answer = outs-many (record { no = 0; used = u; top = top }) N S L (weave_at f (span C₀.links at step count) X sp) refl ∙ sym (g.rest ∙ ap (ahead (weave_at f (span C₀.links at step i) X sp)) turned ∙ ap (many (state_of u N S L)) (append-nil (weave_at f (span C₀.links at step i) X sp) ∙ ap (λ (k : ℕ). weave_at f (span C₀.links at step k) X sp) j));
      ran = g.ran;
      top = λ _. g.topped ∙ ap (λ (k : ℕ). top_at f (span C₀.links at step k) sp) j;
      low = λ _. g.ready.top;
    }

-- anyOf and allOf
module _ (P T R : List ℕ) (b u : Used) (N S L X X' : List ℕ) (sp : ℕ) (C : Source) (below s first count : ℕ) (st : State) (m : ToldMany) (ea : Each C (source_of P T R b N S L) below st (span C.links first 1 count) u N S L X X' sp m) (rd : Ready b u X sp) (e2 : first ≡ field C s 2) (e3 : count ≡ field C s 3) where
  abbrev numbers : List ℕ
  numbers = weave_at (chase_at C below) (span C.links first 1 count) X' sp

  numbers_count : length numbers ≡ count
  numbers_count = weave_length (chase_at C below) (span C.links first 1 count) X' sp ∙ span-length C.links first 1 count

  pub group-stop : (m.no ≡ 0 → ⊥) → Built (group_at C (compile_at C below) st s) C (source_of P T R b N S L) u N S L X X' sp (record { no = m.no; rec = 0; fresh = false; used = m.used })
  unfolding group_at
  group-stop z =
      refused-built (group_at C (compile_at C below) st s) m.no C (source_of P T R b N S L) u m.used N S L X X' sp z
      (rw (← e2, ← e3, sym ea.answer ∙ outs-stop m N S L numbers z)) ea.ran

  many_at : m.no ≡ 0 → each_over (compile_at C below) st (span C.links (field C s 2) 1 (field C s 3)) ≡ many (state_of m.used N S L) numbers
  many_at z = rw (← e2, ← e3) (sym ea.answer ∙ outs-many m N S L numbers z)

  links_lent_at : C.links_lent ≡ length L
  links_lent_at = ap (λ (D : Source). D.links_lent) (sym ea.ran.source)

  -- what put_list weaves is over the source as it then stands, which is the same
  woven : (L' : List ℕ) (y : Bool) → Listed L L' m.used.links count (weave_at (chase_at (source_of P T R b N S L) below) (span (take b.links L) first 1 count) X' sp) y → Listed L L' m.used.links count numbers y
  woven L' y h = subst (λ (D : Source). Listed L L' m.used.links count (weave_at (chase_at D below) (span D.links first 1 count) X' sp) y) ea.ran.source h

  pub group_full : m.no ≡ 0 → (L' : List ℕ) → Listed L L' m.used.links count (weave_at (chase_at (source_of P T R b N S L) below) (span (take b.links L) first 1 count) X' sp) false → Built (group_at C (compile_at C below) st s) C (source_of P T R b N S L') u N S L' X X' sp (record { no = 33; rec = 0; fresh = false; used = m.used })
  unfolding group_at
  group_full z L' h =
      refused-built (group_at C (compile_at C below) st s) 33 C (source_of P T R b N S L') u m.used N S L' X X' sp (λ q. omega arith)
      (rw (many_at z, links_full C m.used N S L count numbers numbers_count links_lent_at (sym h.yes)))
      (record {
        source = source_same P T R b m.used N N S S L L' (omega (arith, rd.notes, ea.ran.notes)) (omega (arith, rd.schemas, ea.ran.schemas)) (omega (arith, rd.links, ea.ran.links)) refl refl h.kept refl refl h.long ∙ ea.ran.source;
        stack = ea.ran.stack;
        long = ea.ran.long;
        notes = ea.ran.notes;
        schemas = ea.ran.schemas;
        links = ea.ran.links;
        most = ea.ran.most;
      })

  pub group-done : m.no ≡ 0 → (L' S' : List ℕ) (kind note : ℕ) → kind ≡ field C s 0 → note ≡ field C s 1 → Listed L L' m.used.links count (weave_at (chase_at (source_of P T R b N S L) below) (span (take b.links L) first 1 count) X' sp) true → (rec : List ℕ) → rec ≡ list_row kind note m.used.links count → (r : Told) → Finished S S' (record { notes = m.used.notes; schemas = m.used.schemas; links = m.used.links + count }) rec r → Built (group_at C (compile_at C below) st s) C (source_of P T R b N S' L') u N S' L' X X' sp r
  unfolding group_at
  group-done z L' S' kind note e0 e1 h rec x r f =
      let v : Used = record { notes = m.used.notes; schemas = m.used.schemas; links = m.used.links + count } in
      finish_built P T R b u v N S S' L' _ r f (group_at C (compile_at C below) st s) C X X' sp rd
      (record {
        source = source_same P T R b m.used N N S S L L' (omega (arith, rd.notes, ea.ran.notes)) (omega (arith, rd.schemas, ea.ran.schemas)) (omega (arith, rd.links, ea.ran.links)) refl refl h.kept refl refl h.long ∙ ea.ran.source;
        stack = ea.ran.stack;
        long = ea.ran.long;
        notes = ea.ran.notes;
        schemas = ea.ran.schemas;
        links = omega (arith, ea.ran.links);
        most = ea.ran.most;
      })
      (rw (many_at z, links-done C m.used N S L L' count numbers numbers_count links_lent_at (sym h.yes) ((woven L' true h).grown refl), x, e0, e1, e3))

module _ (P T R : List ℕ) (b u : Used) (N S L X X' : List ℕ) (sp : ℕ) (C : Source) (below s items : ℕ) (st : State) (a : Told) (pe : Perhaps (perhaps_at (compile_at C below) st items) C (source_of P T R b N S L) u N S L X X' sp a) (rd : Ready b u X sp) (e2 : items ≡ field C s 2) where
  pub array-stop : (a.no ≡ 0 → ⊥) → Built (array_at C (compile_at C below) st s) C (source_of P T R b N S L) u N S L X X' sp (record { no = a.no; rec = 0; fresh = false; used = a.used })
  unfolding array_at
  array-stop z =
      refused-built (array_at C (compile_at C below) st s) a.no C (source_of P T R b N S L) u a.used N S L X X' sp z
      (rw (← e2, sym pe.answer ∙ out-refused a N S L z)) pe.ran

  pub array-done : a.no ≡ 0 → (S' : List ℕ) (kind note least most unique : ℕ) → kind ≡ field C s 0 → note ≡ field C s 1 → least ≡ field C s 3 → most ≡ field C s 4 → unique ≡ field C s 5 → (r : Told) → Finished S S' a.used (kind ∷ note ∷ a.rec ∷ least ∷ most ∷ unique ∷ 0 ∷ 0 ∷ 0 ∷ 0 ∷ 0 ∷ 0 ∷ 0 ∷ 0 ∷ 0 ∷ 0 ∷ []) r → Built (array_at C (compile_at C below) st s) C (source_of P T R b N S' L) u N S' L X X' sp r
  unfolding array_at
  array-done z S' kind note least most unique e0 e1 e3 e4 e5 r f =
      finish_built P T R b u a.used N S S' L _ r f (array_at C (compile_at C below) st s) C X X' sp rd pe.ran
      (rw (← e2, sym pe.answer ∙ out-done a N S L z, e0, e1, e3, e4, e5))

-- the node by its kind
pub node-array : (C : Source) (go : State → ℕ → Out) (st : State) (s kind : ℕ) → kind ≡ field C s 0 → kind ≡ 9 → node_at C go st s ≡ array_at C go st s
unfolding node_at
node-array C go st s kind e h = rw (← e, h)

pub node-group : (C : Source) (go : State → ℕ → Out) (st : State) (s kind : ℕ) → kind ≡ field C s 0 → (kind ≡ 9 → ⊥) → (kind ≡ 10 → ⊥) → node_at C go st s ≡ group_at C go st s
unfolding node_at
node-group C go st s kind e h g = rw (← e, ne_eqb kind 9 h, ne_eqb kind 10 g)

-- one schema
module _ (b u : Used) (N S L X : List ℕ) (sp : ℕ) (C : Source) (level s : ℕ) (st : State) (c : Result Lead Failure) (e : c ≡ chase_at C level s) (rd : Ready b u X sp) where
  pub one_leaf : (n : ℕ) → c ≡ Ok (Leaf n) → st ≡ state_of u N S L → One C C level s st u N S L X X sp (record { no = 0; rec = n; fresh = false; used = u })
  unfolding num
  one_leaf n h q =
      let w : chase_at C level s ≡ Ok (Leaf n) = sym e ∙ h in
      record {
        answer = out-done (record { no = 0; rec = n; fresh = false; used = u }) N S L refl ∙ ap (λ (x : State). done x n) (sym q) ∙ sym (compile_lead C level st s ∙ rw w);
        ran = ran-none C u X sp rd.most;
        fresh = λ _. rw w;
        rise = λ _ z. absurd (let z : ◌≡◌ {A = ℕ} 0 1 = cc in omega arith);
        number = λ _. rw w;
      }

  pub one-refuse : (failure : Failure) → c ≡ Err failure → One C C level s st u N S L X X sp (record { no = number_of failure; rec = 0; fresh = false; used = u })
  one-refuse failure h =
      let w : chase_at C level s ≡ Err failure = sym e ∙ h in
      let z : number_of failure ≡ 0 → ⊥ = number_some failure in
      record {
        answer = out-refused (record { no = number_of failure; rec = 0; fresh = false; used = u }) N S L z ∙ sym (compile_lead C level st s ∙ rw w);
        ran = ran-none C u X sp rd.most;
        fresh = λ q. absurd (z q);
        rise = λ q. absurd (z q);
        number = λ q. absurd (z q);
      }

  pub one-node : (t j : ℕ) → c ≡ Ok (Node t j) → (C' : Source) (N' S' L' X' : List ℕ) (r : Told) → Built (node_at C (compile_at C j) st t) C C' u N' S' L' X X' sp r → One C C' level s st u N' S' L' X X' sp r
  unfolding num
  one-node t j h C' N' S' L' X' r bt =
      let w : chase_at C level s ≡ Ok (Node t j) = sym e ∙ h in
      record {
        answer = bt.answer ∙ sym (compile_lead C level st s ∙ rw w);
        ran = bt.ran;
        fresh = λ q. bt.fresh q ∙ rw w;
        rise = λ q _. bt.rise q;
        number = λ _. rw w;
      }

pub perhaps-none : (b u : Used) (N S L X : List ℕ) (sp : ℕ) (C : Source) (level s : ℕ) → Ready b u X sp → s ≡ 4294967295 → Perhaps (perhaps_at (compile_at C level) (state_of u N S L) s) C C u N S L X X sp (record { no = 0; rec = s; fresh = false; used = u })
perhaps-none b u N S L X sp C level s rd h =
    record {
      answer = out-done (record { no = 0; rec = s; fresh = false; used = u }) N S L refl ∙ rw h;
      ran = ran-none C u X sp rd.most;
    }

pub perhaps-one : (u : Used) (N S L X X' : List ℕ) (sp : ℕ) (C C' : Source) (level s : ℕ) (st : State) (r : Told) → (s ≡ 4294967295 → ⊥) → One C C' level s st u N S L X X' sp r → Perhaps (perhaps_at (compile_at C level) st s) C C' u N S L X X' sp r
perhaps-one u N S L X X' sp C C' level s st r h o =
    record {
      answer = o.answer ∙ rw (ne_eqb s 4294967295 h);
      ran = o.ran;
    }

-- a refusal gives back the counts and the top before it
pub each_back : (C C' : Source) (below : ℕ) (st : State) (items : List ℕ) (u v : Used) (N S L X X' : List ℕ) (sp top k : ℕ) → u.schemas ≤ 4096 → (k ≡ 0 → ⊥) → Each C C' below st items u N S L X X' sp (record { no = k; used = v; top = top }) → Each C C' below st items u N S L X X' sp (record { no = k; used = u; top = sp })
each_back C C' below st items u v N S L X X' sp top k h z e =
    let ns : List ℕ = weave_at (chase_at C below) items X' sp in
    record {
      answer = outs-stop (record { no = k; used = u; top = sp }) N S L ns z ∙ sym (outs-stop (record { no = k; used = v; top = top }) N S L ns z) ∙ e.answer;
      ran = ran_back C C' u v X X' sp h e.ran;
      top = λ q. absurd (z q);
      low = λ q. absurd (z q);
    }
