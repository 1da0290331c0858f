use native.Mathlib.Omega.{arith}
use Rattle.validator.proofs.Leaves as leaves
use Rattle.validator.proofs.begin.Goals as goal
use Rattle.validator.proofs.begin.Goals.{then-instance_words-lt-INSTANCE_WORDS-via-then-instance_words-lt-INSTANCE_WORDS, then-instance_words-lt-INSTANCE_WORDS-via-else-instance_words-lt-INSTANCE_WORDS+then-schema_words-lt-SCHEMA_STEP_WORDS}

pub returns-in_err-check_tables : goal.returns-in_err-check_tables
returns-in_err-check_tables c = leaves.begun_bad _ _ _ _ _ _ c.check_tables.ensures c.in_err-check_tables.was (grind arith)

pub returns-then-node_count-node : goal.returns-then-node_count-node
returns-then-node_count-node c = leaves.begun_node _ _ _ _ _ _ c.check_tables.ensures c.in_ok-check_tables.was _ c.node_count.ensures c.if-node_count-node.true

pub returns-then-schema_count-schema : goal.returns-then-schema_count-schema
returns-then-schema_count-schema c = leaves.begun_schema _ _ _ _ _ _ c.check_tables.ensures c.in_ok-check_tables.was _ c.node_count.ensures c.if-node_count-node.false _ c.schema_count.ensures c.if-schema_count-schema.true

pub returns-then-instance_words-lt-INSTANCE_WORDS : goal.returns-then-instance_words-lt-INSTANCE_WORDS
returns-then-instance_words-lt-INSTANCE_WORDS c =
    elim c.then-instance_words-lt-INSTANCE_WORDS.branch [
      | then-instance_words-lt-INSTANCE_WORDS-via-then-instance_words-lt-INSTANCE_WORDS w ↦ leaves.begun_instance _ _ _ _ _ _ c.check_tables.ensures c.in_ok-check_tables.was _ c.node_count.ensures c.if-node_count-node.false _ c.schema_count.ensures c.if-schema_count-schema.false w.if-instance_words-lt-INSTANCE_WORDS.true
      | then-instance_words-lt-INSTANCE_WORDS-via-else-instance_words-lt-INSTANCE_WORDS+then-schema_words-lt-SCHEMA_STEP_WORDS w ↦ leaves.begun_steps _ _ _ _ _ _ c.check_tables.ensures c.in_ok-check_tables.was _ c.node_count.ensures c.if-node_count-node.false _ c.schema_count.ensures c.if-schema_count-schema.false w.if-instance_words-lt-INSTANCE_WORDS.false w.if-schema_words-lt-SCHEMA_STEP_WORDS.true
    ]

pub returns : goal.returns
returns c = leaves.begun_work _ _ _ _ _ _ c.check_tables.ensures c.in_ok-check_tables.was _ c.node_count.ensures c.if-node_count-node.false _ c.schema_count.ensures c.if-schema_count-schema.false c.if-instance_words-lt-INSTANCE_WORDS.false c.if-schema_words-lt-SCHEMA_STEP_WORDS.false
