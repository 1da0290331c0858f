-- A plain object, and which member builds an object. Assumes nothing.
use Prim.Native.Nat.{ℕ, ◌+◌, ◌≤◌}
use mathlib.Core.Path.{◌≡◌, sym, ap, ◌∙◌, subst}
use mathlib.Core.Bool.{Bool, true, false}
use mathlib.Core.List.{List}
use native.Mathlib.Omega.{arith}
use lib.ListN.{length, take}
use lib.Dec.{eqb}
use borrow.Author.Tests.{ne_eqb}
use Rattle.layout.specs.Layout.{NONE}
use Rattle.compilation.specs.State.{Source, State, Out, done, many, source_of, state_of}
use Rattle.derive.specs.Meets.{Told, out_of, Ready, Ran, Built}
use Rattle.put.specs.Meets.{laid_at, values_at, LayReady}
use Rattle.build.specs.Meets.{ToldMany, outs_of, Each, Perhaps}
use Rattle.put.specs.Chase.{chase_at, weave_at, top_at}
use Rattle.compilation.specs.Table.{field, span, each_over, perhaps_at, plain_at, derived_at, node_at, compile_at}
use Rattle.error.specs.declared.Used.{Used}
use Rattle.std.specs.Prelude.{Result}
use Rattle.error.specs.declared.Failure.{Failure}
use Rattle.put.specs.declared.Lead.{Lead}
use Rattle.merge.proofs.Lists.{part_same}
use Rattle.put.proofs.Weave.{top_least, weave_kept}
use Rattle.build.proofs.Build.{out-done, out-refused, outs-many, outs-stop, refused-built}

-- one thing run after another
pub ran_then : (C C₁ C₂ : Source) (u u₁ u₂ : Used) (X X₁ X₂ : List ℕ) (sp top : ℕ) → sp ≤ top → Ran C C₁ u u₁ X X₁ sp → Ran C₁ C₂ u₁ u₂ X₁ X₂ top → Ran C C₂ u u₂ X X₂ sp
ran_then C C₁ C₂ u u₁ u₂ X X₁ X₂ sp top l a b =
    record {
      source = b.source ∙ a.source;
      stack = part_same sp top X₂ X₁ l b.stack ∙ a.stack;
      long = b.long ∙ a.long;
      notes = omega (arith, a.notes, b.notes);
      schemas = omega (arith, a.schemas, b.schemas);
      links = omega (arith, a.links, b.links);
      most = b.most;
    }

pub ready-then : (C C₁ : Source) (b u u₁ : Used) (X X₁ : List ℕ) (sp top : ℕ) → Ready b u X sp → Ran C C₁ u u₁ X X₁ sp → length X₁ ≡ length X → top ≤ u₁.schemas → Ready b u₁ X₁ top
ready-then C C₁ b u u₁ X X₁ sp top rd ran l h =
    record {
      notes = omega (arith, rd.notes, ran.notes);
      schemas = omega (arith, rd.schemas, ran.schemas);
      links = omega (arith, rd.links, ran.links);
      most = ran.most;
      top = h;
      long = omega (arith, rd.long);
    }

-- the member
module _ (P T R : List ℕ) (b u : Used) (X : List ℕ) (sp : ℕ) (C : Source) (below s : ℕ) (st : State) (rd : Ready b u X sp) (first count : ℕ) (e2 : first ≡ field C s 2) (e3 : count ≡ field C s 3) (N₁ S₁ L₁ X₁ : List ℕ) (m : ToldMany) (ea : Each C (source_of P T R b N₁ S₁ L₁) below st (span C.links (first + 1) 2 count) u N₁ S₁ L₁ X X₁ sp m) where
  abbrev whole : Out
  whole = plain_at C (compile_at C below) st s

  abbrev C₁ : Source
  C₁ = source_of P T R b N₁ S₁ L₁

  abbrev f : ℕ → Result Lead Failure
  f = chase_at C below

  abbrev properties : List ℕ
  properties = span C.links (first + 1) 2 count

  abbrev ps : List ℕ
  ps = weave_at f properties X₁ sp

  pub plain_no_properties : (m.no ≡ 0 → ⊥) → Built whole C C₁ u N₁ S₁ L₁ X X₁ sp (record { no = m.no; rec = 0; fresh = false; used = m.used })
  unfolding plain_at
  plain_no_properties z =
      refused-built whole m.no C C₁ u m.used N₁ S₁ L₁ X X₁ sp z (rw (← e2, ← e3, sym ea.answer ∙ outs-stop m N₁ S₁ L₁ ps z)) ea.ran

  module _ (z : m.no ≡ 0) where
    pub plain_ready₁ : length X₁ ≡ length X → Ready b m.used X₁ m.top
    plain_ready₁ l = ready-then C C₁ b u m.used X X₁ sp m.top rd ea.ran l (ea.low z)

    properties_many : each_over (compile_at C below) st (span C.links (field C s 2 + 1) 2 (field C s 3)) ≡ many (state_of m.used N₁ S₁ L₁) ps
    properties_many = rw (← e2, ← e3) (sym ea.answer ∙ outs-many m N₁ S₁ L₁ ps z)

    top_is : m.top ≡ top_at f properties sp
    top_is = ea.top z

    above : sp ≤ m.top
    above = omega (arith, top_is, top_least f properties sp)

    module _ (on patterns : ℕ) (e4 : on ≡ field C s 4) (e5 : patterns ≡ field C s 5) (N₂ S₂ L₂ X₂ : List ℕ) (n : ToldMany) (eb : Each C₁ (source_of P T R b N₂ S₂ L₂) below (state_of m.used N₁ S₁ L₁) (span (take b.links L₁) (on + 1) 2 patterns) m.used N₂ S₂ L₂ X₁ X₂ m.top n) where
      abbrev C₂ : Source
      C₂ = source_of P T R b N₂ S₂ L₂

      abbrev others : List ℕ
      others = span C.links (on + 1) 2 patterns

      abbrev qs : List ℕ
      qs = weave_at f others X₂ m.top

      ran₂ : Ran C C₂ u n.used X X₂ sp
      ran₂ = ran_then C C₁ C₂ u m.used n.used X X₁ X₂ sp m.top above ea.ran eb.ran

      -- what the second call gives, over the source at entry
      others_answer : outs_of n N₂ S₂ L₂ qs ≡ each_over (compile_at C below) (state_of m.used N₁ S₁ L₁) (span C.links (field C s 4 + 1) 2 (field C s 5))
      others_answer =
          rw (← e4, ← e5)
          (subst (λ (D : Source). outs_of n N₂ S₂ L₂ (weave_at (chase_at D below) (span D.links (on + 1) 2 patterns) X₂ m.top) ≡ each_over (compile_at D below) (state_of m.used N₁ S₁ L₁) (span D.links (on + 1) 2 patterns)) ea.ran.source eb.answer)

      pub plain_no_patterns : (n.no ≡ 0 → ⊥) → Built whole C C₂ u N₂ S₂ L₂ X X₂ sp (record { no = n.no; rec = 0; fresh = false; used = n.used })
      unfolding plain_at
      plain_no_patterns w =
          refused-built whole n.no C C₂ u n.used N₂ S₂ L₂ X X₂ sp w (rw (properties_many, sym others_answer ∙ outs-stop n N₂ S₂ L₂ qs w)) ran₂

      module _ (w : n.no ≡ 0) where
        pub plain_ready₂ : length X₂ ≡ length X₁ → length X₁ ≡ length X → Ready b n.used X₂ n.top
        plain_ready₂ k l = ready-then C C₂ b u n.used X X₂ sp n.top rd ran₂ (k ∙ l) (eb.low w)

        others_many : each_over (compile_at C below) (state_of m.used N₁ S₁ L₁) (span C.links (field C s 4 + 1) 2 (field C s 5)) ≡ many (state_of n.used N₂ S₂ L₂) qs
        others_many = sym others_answer ∙ outs-many n N₂ S₂ L₂ qs w

        upper_is : n.top ≡ top_at f others m.top
        upper_is = subst (λ (D : Source). n.top ≡ top_at (chase_at D below) (span D.links (on + 1) 2 patterns) m.top) ea.ran.source (eb.top w)

        over : m.top ≤ n.top
        over = omega (arith, upper_is, top_least f others m.top)

        module _ (item : ℕ) (e6 : item ≡ field C s 6) (N₃ S₃ L₃ X₃ : List ℕ) (a : Told) (pa : Perhaps (perhaps_at (compile_at C₂ below) (state_of n.used N₂ S₂ L₂) item) C₂ (source_of P T R b N₃ S₃ L₃) n.used N₃ S₃ L₃ X₂ X₃ n.top a) where
          abbrev C₃ : Source
          C₃ = source_of P T R b N₃ S₃ L₃

          ran₃ : Ran C C₃ u a.used X X₃ sp
          ran₃ = ran_then C C₂ C₃ u n.used a.used X X₂ X₃ sp n.top (omega (arith, above, over)) ran₂ pa.ran

          additional_answer : out_of a N₃ S₃ L₃ ≡ perhaps_at (compile_at C below) (state_of n.used N₂ S₂ L₂) (field C s 6)
          additional_answer =
              rw (← e6) (subst (λ (D : Source). out_of a N₃ S₃ L₃ ≡ perhaps_at (compile_at D below) (state_of n.used N₂ S₂ L₂) item) ran₂.source pa.answer)

          pub plain_no_additional : (a.no ≡ 0 → ⊥) → Built whole C C₃ u N₃ S₃ L₃ X X₃ sp (record { no = a.no; rec = 0; fresh = false; used = a.used })
          unfolding plain_at
          plain_no_additional v =
              refused-built whole a.no C C₃ u a.used N₃ S₃ L₃ X X₃ sp v (rw (properties_many, others_many, sym additional_answer ∙ out-refused a N₃ S₃ L₃ v)) ran₃

          module _ (v : a.no ≡ 0) where
            pub plain_ready₃ : length X₃ ≡ length X₂ → length X₂ ≡ length X₁ → length X₁ ≡ length X → Ready b a.used X₃ n.top
            plain_ready₃ j k l = ready-then C C₃ b u a.used X X₃ sp n.top rd ran₃ (j ∙ k ∙ l) (omega (arith, eb.low w, pa.ran.schemas))

            additional_done : perhaps_at (compile_at C below) (state_of n.used N₂ S₂ L₂) (field C s 6) ≡ done (state_of a.used N₃ S₃ L₃) a.rec
            additional_done = sym additional_answer ∙ out-done a N₃ S₃ L₃ v

            module _ (name : ℕ) (e12 : name ≡ field C s 12) (N₄ S₄ L₄ X₄ : List ℕ) (d : Told) (pd : Perhaps (perhaps_at (compile_at C₃ below) (state_of a.used N₃ S₃ L₃) name) C₃ (source_of P T R b N₄ S₄ L₄) a.used N₄ S₄ L₄ X₃ X₄ n.top d) where
              abbrev C₄ : Source
              C₄ = source_of P T R b N₄ S₄ L₄

              ran₄ : Ran C C₄ u d.used X X₄ sp
              ran₄ = ran_then C C₃ C₄ u a.used d.used X X₃ X₄ sp n.top (omega (arith, above, over)) ran₃ pd.ran

              names-answer : out_of d N₄ S₄ L₄ ≡ perhaps_at (compile_at C below) (state_of a.used N₃ S₃ L₃) (field C s 12)
              names-answer =
                  rw (← e12) (subst (λ (D : Source). out_of d N₄ S₄ L₄ ≡ perhaps_at (compile_at D below) (state_of a.used N₃ S₃ L₃) name) ran₃.source pd.answer)

              pub plain_no_names : (d.no ≡ 0 → ⊥) → Built whole C C₄ u N₄ S₄ L₄ X X₄ sp (record { no = d.no; rec = 0; fresh = false; used = d.used })
              unfolding plain_at
              plain_no_names x =
                  refused-built whole d.no C C₄ u d.used N₄ S₄ L₄ X X₄ sp x (rw (properties_many, others_many, additional_done, sym names-answer ∙ out-refused d N₄ S₄ L₄ x)) ran₄

              module _ (x : d.no ≡ 0) where
                pub plain_ready₄ : length X₄ ≡ length X₃ → length X₃ ≡ length X₂ → length X₂ ≡ length X₁ → length X₁ ≡ length X → LayReady b d.used X₄ sp m.top
                plain_ready₄ i j k l =
                    record {
                      ready = ready-then C C₄ b u d.used X X₄ sp sp rd ran₄ (i ∙ j ∙ k ∙ l) (omega (arith, rd.top, ran₄.schemas));
                      middle = omega (arith, ea.low z, ea.ran.most);
                    }

                names-done : perhaps_at (compile_at C below) (state_of a.used N₃ S₃ L₃) (field C s 12) ≡ done (state_of d.used N₄ S₄ L₄) d.rec
                names-done = sym names-answer ∙ out-done d N₄ S₄ L₄ x

                laid_is : whole ≡ laid_at C (state_of d.used N₄ S₄ L₄) s ps qs a.rec d.rec
                unfolding plain_at laid_at
                laid_is = rw (properties_many, others_many, additional_done, names-done)

                -- the stack still has what the two lists left there
                upper : take n.top X₄ ≡ take n.top X₂
                upper = pd.ran.stack ∙ pa.ran.stack

                lower : take m.top X₄ ≡ take m.top X₁
                lower = part_same m.top n.top X₄ X₂ over upper ∙ eb.ran.stack

                ps_kept : ps ≡ values_at C below s 2 3 X₄ sp
                ps_kept = rw (← e2, ← e3) (weave_kept f properties X₁ X₄ sp m.top (omega (arith, top_is)) (sym lower))

                qs_kept : qs ≡ values_at C below s 4 5 X₄ m.top
                qs_kept = rw (← e4, ← e5) (weave_kept f others X₂ X₄ m.top n.top (omega (arith, upper_is)) (sym upper))

                pub plain_done : (N₅ S₅ L₅ X₅ : List ℕ) (r : Told) → Built (laid_at C₄ (state_of d.used N₄ S₄ L₄) s (values_at C₄ below s 2 3 X₄ sp) (values_at C₄ below s 4 5 X₄ m.top) a.rec d.rec) C₄ (source_of P T R b N₅ S₅ L₅) d.used N₅ S₅ L₅ X₄ X₅ sp r → Built whole C (source_of P T R b N₅ S₅ L₅) u N₅ S₅ L₅ X X₅ sp r
                plain_done N₅ S₅ L₅ X₅ r bt =
                    let same : laid_at C₄ (state_of d.used N₄ S₄ L₄) s (values_at C₄ below s 2 3 X₄ sp) (values_at C₄ below s 4 5 X₄ m.top) a.rec d.rec ≡ laid_at C (state_of d.used N₄ S₄ L₄) s (values_at C below s 2 3 X₄ sp) (values_at C below s 4 5 X₄ m.top) a.rec d.rec = ap (λ (D : Source). laid_at D (state_of d.used N₄ S₄ L₄) s (values_at D below s 2 3 X₄ sp) (values_at D below s 4 5 X₄ m.top) a.rec d.rec) ran₄.source in
                    let kept : whole ≡ laid_at C (state_of d.used N₄ S₄ L₄) s (values_at C below s 2 3 X₄ sp) (values_at C below s 4 5 X₄ m.top) a.rec d.rec = laid_is ∙ ap (λ (l : List ℕ). laid_at C (state_of d.used N₄ S₄ L₄) s l qs a.rec d.rec) ps_kept ∙ ap (λ (l : List ℕ). laid_at C (state_of d.used N₄ S₄ L₄) s (values_at C below s 2 3 X₄ sp) l a.rec d.rec) qs_kept in
                    record {
                      answer = bt.answer ∙ same ∙ sym kept;
                      ran = ran_then C C₄ (source_of P T R b N₅ S₅ L₅) u d.used r.used X X₄ X₅ sp sp (omega arith) ran₄ bt.ran;
                      fresh = bt.fresh;
                      rise = λ q. omega (arith, ran₄.schemas, bt.rise q);
                    }

                -- the same where the stack was out of the work meanwhile
                pub plain_done_on : (N₅ S₅ L₅ Y : List ℕ) (r : Told) → Y ≡ X₄ → Built (laid_at C₄ (state_of d.used N₄ S₄ L₄) s (values_at C₄ below s 2 3 Y sp) (values_at C₄ below s 4 5 Y m.top) a.rec d.rec) C₄ (source_of P T R b N₅ S₅ L₅) d.used N₅ S₅ L₅ Y Y sp r → Built whole C (source_of P T R b N₅ S₅ L₅) u N₅ S₅ L₅ X Y sp r
                plain_done_on N₅ S₅ L₅ Y r e bt = rw e (plain_done N₅ S₅ L₅ X₄ r (rw e at bt))

-- a stack under another name
pub ready_same : {b u : Used} {X Y : List ℕ} {sp mid : ℕ} → Y ≡ X → LayReady b u X sp mid → LayReady b u Y sp mid
ready_same e r = rw e r

-- an object by its bases
pub node-plain : (C : Source) (go : State → ℕ → Out) (st : State) (s kind : ℕ) (plain : Bool) → kind ≡ field C s 0 → (kind ≡ 9 → ⊥) → kind ≡ 10 → plain ≡ eqb (field C s 14) NONE → plain ≡ true → node_at C go st s ≡ plain_at C go st s
unfolding node_at
node-plain C go st s kind plain e h g q w = rw (← e, ne_eqb kind 9 h, g, ← q, w)

pub node-derived : (C : Source) (go : State → ℕ → Out) (st : State) (s kind : ℕ) (plain : Bool) → kind ≡ field C s 0 → (kind ≡ 9 → ⊥) → kind ≡ 10 → plain ≡ eqb (field C s 14) NONE → plain ≡ false → node_at C go st s ≡ derived_at C go st s
unfolding node_at
node-derived C go st s kind plain e h g q w = rw (← e, ne_eqb kind 9 h, g, ← q, w)
