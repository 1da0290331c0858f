-- What a compile leaves can be compiled again: the check by the used counts that it answers passes. Assumes nothing.
use Prim.Native.Nat.{ℕ, ◌-◌, ◌/◌, ◌≤◌}
use mathlib.Core.Path.{◌≡◌, sym, subst}
use mathlib.Core.Bool.{Bool, true}
use native.Mathlib.Omega.{arith}
use lib.ListN.{length, replicate, length-append}
use borrow.Author.Tests.{le-leb}
use Rattle.text.specs.Choice.{both-holds}
use Rattle.text.specs.Text.{padded}
use Rattle.error.specs.declared.Used.{Used}
use Rattle.error.specs.Answers.{with_used}
use Rattle.layout.specs.Layout.{Tables, most_notes, most_schemas, most_links, note_count, schema_count}
use Rattle.tables.specs.Found.{Sound}
use Rattle.tables.specs.Check.{used_size, sizes_fault, records_fault, lent_fault, tables_fault}
use Rattle.tables.proofs.Faults.{first_sound, second_sound, size_more}
use Rattle.tables.proofs.Facts.{well_formed}
use Rattle.tables.specs.Facts.{Sized}
use Rattle.schema.specs.Look.{Words}
use Rattle.compilation.specs.Entry.{Compiled, used_tables, used_fault, compile_of}
use Rattle.grouping.specs.Values.{grown}
use Rattle.keeping.specs.Left.{Compiles, lent_after, left_by}
use Rattle.keeping.proofs.Called.{done, left_is}
use Rattle.keeping.proofs.Keeps.{compile_keeps_the_check}

used_made : (records most used : ℕ) → used ≤ most → used ≤ records → used_size records most used ≡ true
unfolding used_size
used_made records most used a b = both-holds (le-leb used most a) (le-leb used records b)

-- the used counts are within the limits, and within what is lent
record Within (T : Tables) (c : Compiled) : Type 0 where
  notes : used_size (note_count c.notes) most_notes c.answer.used.notes ≡ true
  schemas : used_size (schema_count c.schemas) most_schemas c.answer.used.schemas ≡ true
  links : used_size (length c.links) most_links c.answer.used.links ≡ true

module _ (T : Tables) (u : Used) (s : ℕ) (h : Compiles T u s) where
  passed : tables_fault (left_by T (compile_of T u s)) ≡ Sound
  passed = (compile_keeps_the_check T u s h).sound

  counted : Within T (compile_of T u s)
  unfolding with_used padded note_count schema_count
  counted =
      let d = done T u s h in
      let w : Words = d.words in
      let z : Sized (grown (used_tables T u) w) = (well_formed (grown (used_tables T u) w) (subst (λ (X : Tables). tables_fault X ≡ Sound) (left_is T u s d) passed)).sized in
      subst (Within T) (sym d.gives)
      (record {
        notes = used_made _ most_notes (length w.notes / 9) z.notes (omega (arith, length-append w.notes (replicate (length T.notes - length w.notes) 0)));
        schemas = used_made _ most_schemas (length w.schemas / 16) z.schemas (omega (arith, length-append w.schemas (replicate (length T.schemas - length w.schemas) 0)));
        links = used_made _ most_links (length w.links) z.links (omega (arith, length-append w.links (replicate (length T.links - length w.links) 0)));
      })

  -- the sizes, judged by the used counts
  sizes : (U : Tables) (n m l : Bool) → n ≡ true → m ≡ true → l ≡ true → lent_fault U ≡ Sound → sizes_fault U.pool U.texts U.nodes U.registry U.patterns U.numbers n m l ≡ Sound
  unfolding lent_fault sizes_fault
  sizes U n m l a b c =
      size_more _ _ 1 _ _ (λ q. q) (size_more _ _ 2 _ _ (λ q. q) (size_more _ _ 3 _ _ (λ q. a) (size_more _ _ 4 _ _ (λ q. b)
      (size_more _ _ 5 _ _ (λ q. q) (size_more _ _ 6 _ _ (λ q. q) (size_more _ _ 7 _ _ (λ q. c) (λ q. q)))))))

  -- a second compile, with the counts that the first answered, finds its tables good
  pub compile_can_go_on : used_fault (lent_after T (compile_of T u s)) (compile_of T u s).answer.used ≡ Sound
  unfolding used_fault tables_fault left_by used_tables
  compile_can_go_on =
      let U : Tables = left_by T (compile_of T u s) in
      rw (sizes U _ _ _ counted.notes counted.schemas counted.links (first_sound (lent_fault U) (records_fault U) passed)) (second_sound (lent_fault U) (records_fault U) passed)
