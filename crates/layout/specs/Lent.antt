-- What a call is lent, as the code holds it in one value. Assumes nothing.
use Rattle.layout.specs.Layout.{Tables, tables}
use Rattle.layout.specs.declared.Tables as lent

-- the tables of that value
abbrev pub tables_of : lent.Tables → Tables
tables_of t =
    tables t.texts.pool.now t.texts.records.now t.nodes.now t.notes.now t.schemas.now t.registry.now t.patterns.now t.links.now t.numbers.now
