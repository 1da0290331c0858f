use mathlib.Core.List.{flat_map}
use Rattle.text.specs.Text.{padded}
use Rattle.names.specs.Names.{named, table_names, node_names, schema_names}
use Rattle.names.proofs.Table.{row_at, bytes, lengths, row_at_lem}
use Rattle.names.proofs.row.Goals as goal

pub returns : goal.returns
unfolding row_at bytes lengths named padded table_names node_names schema_names flat_map
returns c = row_at_lem c.args.k c.requires
