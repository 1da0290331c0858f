-- Records appended one after the other.
use Prim.Native.Nat.{ℕ, ◌+◌, ◌*◌, ◌/◌, ◌≤◌, ◌<◌}
use mathlib.Core.Path.{◌≡◌, refl, sym, ap, ◌∙◌}
use mathlib.Core.Bool.{Bool, true, false}
use mathlib.Core.List.{List}
use native.Mathlib.Omega.{arith}
use borrow.Author.Tests.{lt-ltb, le-ltb}
use Rattle.text.specs.Choice.{pick}
use Rattle.layout.specs.Layout.{NONE}
use Rattle.layout.specs.Rows.{list_row, object_row}
use Rattle.std.specs.Prelude.{Result, Ok, Err}
use Rattle.std.specs.Int.{from_bool}
use Rattle.error.specs.declared.Used.{Used}
use Rattle.error.specs.declared.Failure.{Failure}
use Rattle.error.specs.Answers.{number_of}
use Rattle.joins.specs.declared.Offers.{Offers}
use Rattle.joins.specs.declared.Lists.{Lists}
use Rattle.compilation.specs.State.{Source, State, Out, and_then, source_of, state_of, add_schema}
use Rattle.compilation.specs.Table.{join_row_at}
use Rattle.derive.specs.declared.Made.{Made}
use Rattle.derive.specs.Meets.{Told, told, Grows, Ready, Ran, Built, Finished, Rows, Rowed, join_row, rows_of}
use Rattle.inherit.specs.declared.Scalars.{Scalars}
use Rattle.merge.proofs.Lists.{part_same}
use Rattle.derive.proofs.Build.{out-done, out-refused, source_same, number_some}

-- a record appended is the simplest case
pub finished-rowed : (S S' : List ℕ) (u : Used) (w : List ℕ) (r : Told) → Finished S S' u w r → Rowed S S' u (λ C st. add_schema C st w) r
finished-rowed S S' u w r f =
    record {
      rows = record { answer = f.answer; kept = f.kept; long = f.long; notes = f.notes; links = f.links; least = f.least; most = f.most };
      fresh = f.fresh;
      rise = f.rise;
    }

pub row_is : (S S' : List ℕ) (u : Used) (o o' : Source → State → Out) (r : Told) → ((C : Source) (st : State) → o C st ≡ o' C st) → Rows S S' u o r → Rows S S' u o' r
row_is S S' u o o' r e h =
    record {
      answer = λ C N L l. h.answer C N L l ∙ e C (state_of u N S L);
      kept = h.kept;
      long = h.long;
      notes = h.notes;
      links = h.links;
      least = h.least;
      most = h.most;
    }

-- a refusal gives back the counts before it
rowed_back : (S S' : List ℕ) (u v : Used) (o : Source → State → Out) (k : ℕ) → (k ≡ 0 → ⊥) → Rowed S S' u o (record { no = k; rec = 0; fresh = false; used = v }) → Rowed S S' u o (record { no = k; rec = 0; fresh = false; used = u })
rowed_back S S' u v o k z h =
    record {
      rows =
          record {
            answer = λ C N L l. out-refused (record { no = k; rec = 0; fresh = false; used = u }) N S' L z ∙ sym (out-refused (record { no = k; rec = 0; fresh = false; used = v }) N S' L z) ∙ h.rows.answer C N L l;
            kept = h.rows.kept;
            long = h.rows.long;
            notes = refl;
            links = refl;
            least = omega arith;
            most = λ m. m;
          };
      fresh = λ q. absurd (z q);
      rise = λ q. absurd (z q);
    }

pub rowed_told : (S S' : List ℕ) (u v : Used) (o : Source → State → Out) (r : Result Made Failure) → Rowed S S' u o (told v r) → Rowed S S' u o (told u r)
rowed_told S S' u v o (Ok m) h = h
rowed_told S S' u v o (Err e) h = rowed_back S S' u v o (number_of e) (number_some e) h

-- a join
module _ (S : List ℕ) (u : Used) (kind first : ℕ) (x : Offers) where
  pub join_few : x.n < 2 → Rows S S u (join_row kind first x) (record { no = 0; rec = x.last; fresh = false; used = u })
  unfolding join_row join_row_at
  join_few h =
      record {
        answer = λ C N L l. out-done (record { no = 0; rec = x.last; fresh = false; used = u }) N S L refl ∙ rw (lt-ltb x.n 2 h);
        kept = refl;
        long = refl;
        notes = refl;
        links = refl;
        least = omega arith;
        most = λ m. m;
      }

  pub join_many : 2 ≤ x.n → (S' w : List ℕ) (r : Told) → w ≡ list_row kind NONE first x.n → Finished S S' u w r → Rows S S' u (join_row kind first x) r
  unfolding join_row join_row_at
  join_many h S' w r e f = row_is S S' u (λ C st. add_schema C st w) (join_row kind first x) r (λ C st. rw (e, le-ltb x.n 2 h)) (finished-rowed S S' u w r f).rows

-- a bool as a word
pub shut_is : {n : ℕ} (closed : Bool) → n ≡ from_bool closed → n ≡ pick closed 1 0
shut_is true e = e
shut_is false e = e

-- records after records
module _ (S S₁ : List ℕ) (u : Used) (o : Source → State → Out) (a : Told) (d : Rows S S₁ u o a) where
  pub rows-stop : (a.no ≡ 0 → ⊥) → (k : Source → State → ℕ → Out) → Rowed S S₁ u (λ C st. and_then (o C st) (k C)) (record { no = a.no; rec = 0; fresh = false; used = u })
  rows-stop z k =
      record {
        rows =
            record {
              answer = λ C N L l. out-refused (record { no = a.no; rec = 0; fresh = false; used = u }) N S₁ L z ∙ sym (ap (λ (x : Out). and_then x (k C)) (sym (d.answer C N L l) ∙ out-refused a N S₁ L z));
              kept = d.kept;
              long = d.long;
              notes = refl;
              links = refl;
              least = omega arith;
              most = λ m. m;
            };
        fresh = λ q. absurd (z q);
        rise = λ q. absurd (z q);
      }

  module _ (z : a.no ≡ 0) (S₂ : List ℕ) (k : Source → State → ℕ → Out) (r : Told) (g : Rowed S₁ S₂ a.used (λ C st. k C st a.rec) r) where
    pub rows_then : Rowed S S₂ u (λ C st. and_then (o C st) (k C)) r
    rows_then =
        record {
          rows =
              record {
                answer = λ C N L l. g.rows.answer C N L (l ∙ sym d.long) ∙ sym (ap (λ (x : Out). and_then x (k C)) (sym (d.answer C N L l) ∙ out-done a N S₁ L z));
                kept = part_same (u.schemas * 16) (a.used.schemas * 16) S₂ S₁ (omega (arith, d.least)) g.rows.kept ∙ d.kept;
                long = g.rows.long ∙ d.long;
                notes = g.rows.notes ∙ d.notes;
                links = g.rows.links ∙ d.links;
                least = omega (arith, d.least, g.rows.least);
                most = λ m. g.rows.most (d.most m);
              };
          fresh = g.fresh;
          rise = λ q. omega (arith, d.least, g.rise q);
        }

-- the records of a merged object
module _ (S S₁ : List ℕ) (u : Used) (note at : ℕ) (x : Lists) (offers named : Offers) (k : Scalars) (p q n e : ℕ) (ep : p ≡ x.properties) (eq : q ≡ x.patterns) (en : n ≡ x.required) (ee : e ≡ x.additional) (a : Told) (d : Rows S S₁ u (join_row 8 (at + (p + q + n)) offers) a) where
  abbrev whole : Source → State → Out
  whole = rows_of note at x offers named k

  abbrev object : ℕ → ℕ → List ℕ
  object additional names = object_row note at (p / 2) (at + p) (q / 2) additional (at + (p + q)) n k.minimum k.maximum (pick k.closed 1 0) names k.naming

  abbrev more : Source → State → ℕ → Out
  more C st additional = and_then (join_row 7 (at + (p + q + n + e)) named C st) (λ st₂ names. add_schema C st₂ (object additional names))

  whole_is : (λ (C : Source) (st : State). and_then (join_row 8 (at + (p + q + n)) offers C st) (more C)) ≡ whole
  unfolding rows_of
  whole_is = rw (ep, eq, en, ee)

  pub merged_stop : (a.no ≡ 0 → ⊥) → Rowed S S₁ u whole (record { no = a.no; rec = 0; fresh = false; used = u })
  merged_stop z = rw whole_is at (rows-stop S S₁ u (join_row 8 (at + (p + q + n)) offers) a d z more)

  module _ (z : a.no ≡ 0) (S₂ : List ℕ) (b : Told) (g : Rows S₁ S₂ a.used (join_row 7 (at + (p + q + n + e)) named) b) where
    pub merged_stop_2 : (b.no ≡ 0 → ⊥) → Rowed S S₂ u whole (record { no = b.no; rec = 0; fresh = false; used = u })
    merged_stop_2 y =
        rowed_back S S₂ u a.used whole b.no y
        (rw whole_is at
        (rows_then S S₁ u (join_row 8 (at + (p + q + n)) offers) a d z S₂ more (record { no = b.no; rec = 0; fresh = false; used = a.used })
        (rows-stop S₁ S₂ a.used (join_row 7 (at + (p + q + n + e)) named) b g y (λ C st names. add_schema C st (object a.rec names)))))

    pub merged_done : b.no ≡ 0 → (S₃ w : List ℕ) (shut : ℕ) (r : Told) → shut ≡ pick k.closed 1 0 → w ≡ object_row note at (p / 2) (at + p) (q / 2) a.rec (at + (p + q)) n k.minimum k.maximum shut b.rec k.naming → Finished S₂ S₃ b.used w r → Rowed S S₃ u whole r
    merged_done y S₃ w shut r es ew f =
        let ow : w ≡ object a.rec b.rec = ew ∙ rw es in
        rw whole_is at
        (rows_then S S₁ u (join_row 8 (at + (p + q + n)) offers) a d z S₃ more r
        (rows_then S₁ S₂ a.used (join_row 7 (at + (p + q + n + e)) named) b g y S₃ (λ C st names. add_schema C st (object a.rec names)) r
        (rw ow at (finished-rowed S₂ S₃ b.used w r f))))

-- records appended after what ran
module _ (P T R : List ℕ) (b u v : Used) (N S S' L : List ℕ) (o : Source → State → Out) (r : Told) (f : Rowed S S' v o r) where
  rows-ran : (C : Source) (X X' : List ℕ) (sp : ℕ) → Grows b u → Ran C (source_of P T R b N S L) u v X X' sp → Ran C (source_of P T R b N S' L) u r.used X X' sp
  rows-ran C X X' sp rd ran =
      record {
        source = source_same P T R b v N N S S' L L (omega (arith, rd.notes, ran.notes)) (omega (arith, rd.schemas, ran.schemas)) (omega (arith, rd.links, ran.links)) refl f.rows.kept refl refl f.rows.long refl ∙ ran.source;
        stack = ran.stack;
        long = ran.long;
        notes = omega (arith, ran.notes, f.rows.notes);
        schemas = omega (arith, ran.schemas, f.rows.least);
        links = omega (arith, ran.links, f.rows.links);
        most = f.rows.most ran.most;
      }

  pub rows-built : (out : Out) (C : Source) (X X' : List ℕ) (sp : ℕ) → Grows b u → Ran C (source_of P T R b N S L) u v X X' sp → out ≡ o C (state_of v N S L) → Built out C (source_of P T R b N S' L) u N S' L X X' sp r
  rows-built out C X X' sp rd ran e =
      record {
        answer = f.rows.answer C N L (ap (λ (D : Source). D.schemas_lent) (sym ran.source)) ∙ sym e;
        ran = rows-ran C X X' sp rd ran;
        fresh = f.fresh;
        rise = λ z. omega (arith, f.rise z, ran.schemas);
      }

pub ready_grows : {b u : Used} {X : List ℕ} {sp : ℕ} → Ready b u X sp → Grows b u
ready_grows rd = record { notes = rd.notes; schemas = rd.schemas; links = rd.links; most = rd.most }

pub finish_built : (P T R : List ℕ) (b u v : Used) (N S S' L w : List ℕ) (r : Told) → Finished S S' v w r → (out : Out) (C : Source) (X X' : List ℕ) (sp : ℕ) → Ready b u X sp → Ran C (source_of P T R b N S L) u v X X' sp → out ≡ add_schema C (state_of v N S L) w → Built out C (source_of P T R b N S' L) u N S' L X X' sp r
finish_built P T R b u v N S S' L w r f out C X X' sp rd = rows-built P T R b u v N S S' L (λ C st. add_schema C st w) r (finished-rowed S S' v w r f) out C X X' sp (ready_grows rd)
