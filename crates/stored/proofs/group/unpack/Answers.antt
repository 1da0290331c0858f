use Prim.Native.Nat.{◌/◌, ◌%◌}
use mathlib.Core.Path.{◌∙◌}
use borrow.Author.Rules.{rules}
use Rattle.stored.specs.Stored.{place_after, word_behind, number_at}
use Rattle.stored.specs.Group.{octet_of}
use Rattle.stored.proofs.Unpacking.{bytes_slice, numbers_slice, group-unpacked}
use Rattle.stored.proofs.group.unpack.Goals as goal

pub returns : goal.returns
returns c = group-unpacked _ _ _ _ _ c.head-bytes_head.ensures c.after.ensures c.head-numbers_head.ensures c.after-from.ensures (c.unpack_slice.ensures (λ i. octet_of (word_behind _ _ (i / 4)) (i % 4)) (λ i r p. search rules) ∙ bytes_slice _ _ _ _ c.octet.ensures) c.after-2.ensures c.words_for.ensures c.after-3.ensures c.unpack_tables-tables.ensures.ends c.unpack_tables-tables.ensures.after c.unpack_tables-tables.ensures.words (c.unpack_slice-2.ensures (λ i. number_at _ (place_after (place_after _ i) i)) (λ i r p. search rules) ∙ numbers_slice _ _ _ _ c.pair.ensures) c.wide.ensures c.wide-2.ensures c.after-4.ensures c.after-5.ensures
