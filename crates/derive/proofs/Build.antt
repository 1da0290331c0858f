-- What the code appends, against the state.
use Prim.Native.Nat.{ℕ, ◌+◌, ◌*◌, ◌≤◌}
use mathlib.Core.Path.{◌≡◌, refl, sym, ◌∙◌}
use mathlib.Core.Bool.{true, false}
use mathlib.Core.List.{List, ◌++◌}
use native.Mathlib.Omega.{arith}
use lib.ListN.{length, take}
use borrow.Author.Tests.{eq-eqb, ne_eqb}
use Rattle.append.specs.Append.{room, Grown}
use Rattle.append.proofs.Laws.{room_limit}
use Rattle.merge.proofs.Lists.{part_same}
use Rattle.std.specs.Prelude.{Result, Ok, Err}
use Rattle.error.specs.declared.Used.{Used}
use Rattle.error.specs.declared.Failure.{Failure}
use Rattle.error.specs.declared.Failure.TheVariants.{BadTable, WrongNumber, ShortBuffer, TooDeep, NoPatternAnswer, NoAlternative, NoBases, BaseNotObject, UnknownReference, NoRoom, NotFound}
use Rattle.error.specs.Answers.{number_of}
use Rattle.compilation.specs.State.{Source, Out, done, refused, source_of, state_of, add_schema, add_links, add_note}
use Rattle.derive.specs.declared.Made.{Made}
use Rattle.derive.specs.Meets.{Told, told, out_of, Ran, Built, Finished}

-- answers
pub out-done : (r : Told) (N S L : List ℕ) → r.no ≡ 0 → out_of r N S L ≡ done (state_of r.used N S L) r.rec
unfolding out_of
out-done r N S L h = rw (eq-eqb r.no 0 h)

pub out-refused : (r : Told) (N S L : List ℕ) → (r.no ≡ 0 → ⊥) → out_of r N S L ≡ refused r.no
unfolding out_of
out-refused r N S L h = rw (ne_eqb r.no 0 h)

-- what ran
pub ran-none : (C : Source) (u : Used) (X : List ℕ) (sp : ℕ) → u.schemas ≤ 4096 → Ran C C u u X X sp
ran-none C u X sp h = record { source = refl; stack = refl; long = refl; notes = omega arith; schemas = omega arith; links = omega arith; most = h }

-- the source stays where only words after the used ones change
pub source_same : (P T R : List ℕ) (b u : Used) (N N' S S' L L' : List ℕ) → b.notes ≤ u.notes → b.schemas ≤ u.schemas → b.links ≤ u.links → take (u.notes * 9) N' ≡ take (u.notes * 9) N → take (u.schemas * 16) S' ≡ take (u.schemas * 16) S → take u.links L' ≡ take u.links L → length N' ≡ length N → length S' ≡ length S → length L' ≡ length L → source_of P T R b N' S' L' ≡ source_of P T R b N S L
source_same P T R b u N N' S S' L L' bn bs bl n s l ln ls ll =
    rw (part_same (b.notes * 9) (u.notes * 9) N' N (omega arith) n, part_same (b.schemas * 16) (u.schemas * 16) S' S (omega arith) s, part_same b.links u.links L' L bl l, ln, ls, ll)

-- a record appended
pub finish_yes : (S S' : List ℕ) (u : Used) (w : List ℕ) → length w ≡ 16 → Grown 65536 S S' (u.schemas * 16) w true → Finished S S' u w (record { no = 0; rec = u.schemas; fresh = true; used = record { notes = u.notes; schemas = u.schemas + 1; links = u.links } })
unfolding out_of add_schema state_of
finish_yes S S' u w six g =
    let e : u.schemas * 16 + length w ≡ (u.schemas + 1) * 16 = omega arith in
    let y : room 65536 (length S) (u.schemas * 16) 16 ≡ true = rw six at (sym g.yes) in
    let m : take ((u.schemas + 1) * 16) S' ≡ take (u.schemas * 16) S ++ w = rw e at (g.grown refl) in
    record {
      answer = λ C N L l. rw (l, y, m);
      kept = g.kept;
      long = g.long;
      notes = refl;
      links = refl;
      fresh = λ _. refl;
      least = omega arith;
      rise = λ _. omega arith;
      most = λ _. omega (arith, room_limit 65536 (length S) (u.schemas * 16) 16 y);
    }

pub finish_no : (S S' : List ℕ) (u : Used) (w : List ℕ) → length w ≡ 16 → Grown 65536 S S' (u.schemas * 16) w false → Finished S S' u w (record { no = 33; rec = 0; fresh = false; used = u })
unfolding out_of add_schema state_of
finish_no S S' u w six g =
    let y : room 65536 (length S) (u.schemas * 16) 16 ≡ false = rw six at (sym g.yes) in
    record {
      answer = λ C N L l. rw (l, y);
      kept = g.kept;
      long = g.long;
      notes = refl;
      links = refl;
      fresh = λ z. absurd (omega arith);
      least = omega arith;
      rise = λ z. absurd (omega arith);
      most = λ h. h;
    }

-- links appended, as the state has it
pub links-done : (C : Source) (u : Used) (N S L L' : List ℕ) (count : ℕ) (ns : List ℕ) → length ns ≡ count → C.links_lent ≡ length L → room 16384 (length L) u.links count ≡ true → take (u.links + count) L' ≡ take u.links L ++ ns → add_links C (state_of u N S L) ns ≡ done (state_of (record { notes = u.notes; schemas = u.schemas; links = u.links + count }) N S L') u.links
unfolding add_links state_of
links-done C u N S L L' count ns n l y m = rw (n, l, y, m)

pub links_full : (C : Source) (u : Used) (N S L : List ℕ) (count : ℕ) (ns : List ℕ) → length ns ≡ count → C.links_lent ≡ length L → room 16384 (length L) u.links count ≡ false → add_links C (state_of u N S L) ns ≡ refused 33
unfolding add_links state_of
links_full C u N S L count ns n l y = rw (n, l, y)

-- a note appended
pub note-done : (C : Source) (u : Used) (N N' S L w : List ℕ) → length w ≡ 9 → C.notes_lent ≡ length N → Grown 9216 N N' (u.notes * 9) w true → add_note C (state_of u N S L) w ≡ done (state_of (record { notes = u.notes + 1; schemas = u.schemas; links = u.links }) N' S L) u.notes
unfolding add_note state_of
note-done C u N N' S L w n l g =
    let e : u.notes * 9 + length w ≡ (u.notes + 1) * 9 = omega arith in
    let y : room 9216 (length N) (u.notes * 9) 9 ≡ true = rw n at (sym g.yes) in
    let m : take ((u.notes + 1) * 9) N' ≡ take (u.notes * 9) N ++ w = rw e at (g.grown refl) in
    rw (l, y, m)

pub note_full : (C : Source) (u : Used) (N N' S L w : List ℕ) → length w ≡ 9 → C.notes_lent ≡ length N → Grown 9216 N N' (u.notes * 9) w false → add_note C (state_of u N S L) w ≡ refused 33
unfolding add_note state_of
note_full C u N N' S L w n l g =
    let y : room 9216 (length N) (u.notes * 9) 9 ≡ false = rw n at (sym g.yes) in
    rw (l, y)

pub refused-built : (o : Out) (k : ℕ) (C C' : Source) (u v : Used) (N S L X X' : List ℕ) (sp : ℕ) → (k ≡ 0 → ⊥) → o ≡ refused k → Ran C C' u v X X' sp → Built o C C' u N S L X X' sp (record { no = k; rec = 0; fresh = false; used = v })
refused-built o k C C' u v N S L X X' sp h e r =
    record {
      answer = out-refused (record { no = k; rec = 0; fresh = false; used = v }) N S L h ∙ sym e;
      ran = r;
      fresh = λ z. absurd (h z);
      rise = λ z. absurd (h z);
    }

pub built_is : (o o' : Out) (C C' : Source) (u : Used) (N S L X X' : List ℕ) (sp : ℕ) (r : Told) → o ≡ o' → Built o' C C' u N S L X X' sp r → Built o C C' u N S L X X' sp r
built_is o o' C C' u N S L X X' sp r e h = rw e h

-- no failure has the number of a success
pub number_some : (failure : Failure) → number_of failure ≡ 0 → ⊥
number_some (BadTable table place) e = omega arith
number_some WrongNumber e = omega arith
number_some ShortBuffer e = omega arith
number_some TooDeep e = omega arith
number_some NoPatternAnswer e = omega arith
number_some NoAlternative e = omega arith
number_some NoBases e = omega arith
number_some BaseNotObject e = omega arith
number_some UnknownReference e = omega arith
number_some NoRoom e = omega arith
number_some NotFound e = omega arith

-- a refusal gives back the counts before it
pub ran_back : (C C' : Source) (u v : Used) (X X' : List ℕ) (sp : ℕ) → u.schemas ≤ 4096 → Ran C C' u v X X' sp → Ran C C' u u X X' sp
ran_back C C' u v X X' sp h r =
    record { source = r.source; stack = r.stack; long = r.long; notes = omega arith; schemas = omega arith; links = omega arith; most = h }

pub built_back : (o : Out) (C C' : Source) (u v : Used) (N S L X X' : List ℕ) (sp k : ℕ) → u.schemas ≤ 4096 → (k ≡ 0 → ⊥) → Built o C C' u N S L X X' sp (record { no = k; rec = 0; fresh = false; used = v }) → Built o C C' u N S L X X' sp (record { no = k; rec = 0; fresh = false; used = u })
built_back o C C' u v N S L X X' sp k h z b =
    record {
      answer = out-refused (record { no = k; rec = 0; fresh = false; used = u }) N S L z ∙ sym (out-refused (record { no = k; rec = 0; fresh = false; used = v }) N S L z) ∙ b.answer;
      ran = ran_back C C' u v X X' sp h b.ran;
      fresh = λ q. absurd (z q);
      rise = λ q. absurd (z q);
    }

pub built_told : (o : Out) (C C' : Source) (u v : Used) (N S L X X' : List ℕ) (sp : ℕ) (r : Result Made Failure) → u.schemas ≤ 4096 → Built o C C' u N S L X X' sp (told v r) → Built o C C' u N S L X X' sp (told u r)
built_told o C C' u v N S L X X' sp (Ok m) h b = b
built_told o C C' u v N S L X X' sp (Err e) h b = built_back o C C' u v N S L X X' sp (number_of e) h (number_some e) b
