-- Document 01, "Worked examples": the public call's definition says of each row what 01 says. Assumes nothing.
use mathlib.Core.Path.{◌≡◌, refl}
use Rattle.laws.specs.Examples.{answers_to, wanted, examples}

pub worked_examples : answers_to examples ≡ wanted examples
unfolding Rattle.laws.specs.Examples.answer_to Rattle.laws.specs.Examples.answers_to Rattle.laws.specs.Examples.wanted Rattle.laws.specs.Examples.p1 Rattle.laws.specs.Examples.p2_self Rattle.laws.specs.Examples.nested Rattle.laws.specs.Examples.up_to Rattle.laws.specs.Examples.p2_nested Rattle.laws.specs.Examples.p3 Rattle.laws.specs.Examples.p4 Rattle.laws.specs.Examples.p5 Rattle.laws.specs.Examples.p6 Rattle.laws.specs.Examples.p8 Rattle.laws.specs.Examples.examples Rattle.text.specs.Text.text_count Rattle.text.specs.Text.text_word Rattle.text.specs.Text.text_start Rattle.text.specs.Text.text_length Rattle.text.specs.Text.fits_in Rattle.text.specs.Text.part_of Rattle.text.specs.Text.text_fits Rattle.text.specs.Text.text_of Rattle.text.specs.Text.same_bytes Rattle.text.specs.Text.same_text Rattle.text.specs.Text.padded Rattle.text.specs.Utf8.lead_of Rattle.text.specs.Utf8.step_of Rattle.text.specs.Utf8.utf8_of Rattle.text.specs.Utf8.point_of Rattle.text.specs.Utf8.code_points_of Rattle.layout.specs.Layout.node_count Rattle.layout.specs.Layout.note_count Rattle.layout.specs.Layout.schema_count Rattle.layout.specs.Layout.entry_count Rattle.layout.specs.Layout.pattern_count Rattle.layout.specs.Layout.node_word Rattle.layout.specs.Layout.note_word Rattle.layout.specs.Layout.schema_word Rattle.layout.specs.Layout.registry_word Rattle.layout.specs.Layout.pattern_word Rattle.layout.specs.Layout.pair_key Rattle.layout.specs.Layout.pair_value Rattle.layout.specs.Walk.every Rattle.layout.specs.Walk.first Rattle.lookup.specs.Find.last_below Rattle.lookup.specs.Find.first_from Rattle.lookup.specs.Lookup.key_is Rattle.lookup.specs.Lookup.entry_key Rattle.lookup.specs.Lookup.entry_value Rattle.lookup.specs.Lookup.item_node Rattle.lookup.specs.Lookup.entry_has_key Rattle.lookup.specs.Lookup.last_entry Rattle.lookup.specs.Lookup.pair_has_key Rattle.lookup.specs.Lookup.property_of Rattle.lookup.specs.Lookup.entry_is_named Rattle.lookup.specs.Lookup.resolve_of Rattle.lookup.specs.Lookup.find_in Rattle.lookup.specs.Lookup.answers_pattern Rattle.lookup.specs.Lookup.answer_of_pattern Rattle.number.specs.Check.abs Rattle.number.specs.Check.not_multiple_of Rattle.number.specs.Check.check_number_of Rattle.number.specs.Equal.mixed_of Rattle.number.specs.Equal.equal_reals_of Rattle.number.specs.Equal.equal_numbers_of Rattle.number.specs.Nearest.nearest_of Rattle.number.specs.Pattern.finite_of Rattle.judge.specs.Judge.length_in Rattle.judge.specs.Judge.is_short Rattle.judge.specs.Judge.is_long Rattle.judge.specs.Judge.count_verdict Rattle.judge.specs.Judge.real_at Rattle.judge.specs.Judge.bounds_of Rattle.judge.specs.Judge.answer_wrong Rattle.judge.specs.Judge.mismatch Rattle.judge.specs.Judge.boolean_verdict Rattle.judge.specs.Judge.null_verdict Rattle.judge.specs.Judge.value_verdict Rattle.judge.specs.Judge.number_verdict Rattle.judge.specs.Judge.pattern_verdict Rattle.judge.specs.Judge.string_verdict Rattle.judge.specs.Judge.is_listed Rattle.judge.specs.Judge.any_repeated Rattle.judge.specs.Judge.enum_verdict Rattle.judge.specs.Judge.items_of Rattle.judge.specs.Judge.unique_verdict Rattle.judge.specs.Judge.array_verdict Rattle.judge.specs.Judge.has_earlier Rattle.judge.specs.Judge.is_duplicate Rattle.judge.specs.Judge.keys_verdict Rattle.judge.specs.Judge.object_verdict Rattle.judge.specs.Judge.has_key Rattle.judge.specs.Judge.missing Rattle.judge.specs.Judge.required_verdict Rattle.judge.specs.Judge.size_verdict Rattle.judge.specs.Judge.before_entries Rattle.judge.specs.Judge.judge_of Rattle.schema.specs.Look.slice Rattle.schema.specs.Look.pairs_from Rattle.schema.specs.Look.own_words Rattle.schema.specs.Look.note_at Rattle.schema.specs.Look.own_of Rattle.schema.specs.Look.array_of Rattle.schema.specs.Look.object_of Rattle.schema.specs.Look.raw Rattle.schema.specs.Look.bases Rattle.schema.specs.Look.detecting Rattle.schema.specs.Look.sort_names Rattle.schema.specs.Look.sort_shape Rattle.schema.specs.Look.look Rattle.json_equality.specs.Json.field_of Rattle.json_equality.specs.Json.has_field Rattle.json_equality.specs.Json.keys_within Rattle.json_equality.specs.Value.real_shape Rattle.json_equality.specs.Value.parsed_shape Rattle.json_equality.specs.Value.shape_by Rattle.json_equality.specs.Value.shape_of Rattle.json_equality.specs.Value.items_from Rattle.json_equality.specs.Value.keyed Rattle.json_equality.specs.Value.fields_from Rattle.json_equality.specs.Value.json_of Rattle.json_equality.specs.Value.value_at Rattle.json_equality.specs.Value.value_of Rattle.json_equality.specs.Value.equal_nodes_of Rattle.lists.specs.Lists.optional_below Rattle.lists.specs.Lists.link_below Rattle.lists.specs.Lists.list_below Rattle.lists.specs.Lists.pair_ok Rattle.lists.specs.Lists.keys_differ Rattle.lists.specs.Lists.key_is_new Rattle.lists.specs.Lists.keys_distinct Rattle.lists.specs.Lists.pairs_below Rattle.lists.specs.Lists.pairs_ok Rattle.records.specs.Records.counts_in Rattle.records.specs.Records.text_ok Rattle.records.specs.Records.plain_node_ok Rattle.records.specs.Records.boolean_node_ok Rattle.records.specs.Records.place_node_ok Rattle.records.specs.Records.real_node_ok Rattle.records.specs.Records.list_node_ok Rattle.records.specs.Records.node_rule Rattle.records.specs.Records.node_ok Rattle.records.specs.Records.note_ok Rattle.records.specs.Records.entry_ok Rattle.records.specs.Records.pattern_ok Rattle.rules.specs.Schemas.unused_at Rattle.rules.specs.Schemas.unused_from Rattle.rules.specs.Schemas.schema_note_ok Rattle.rules.specs.Schemas.true_ok Rattle.rules.specs.Schemas.number_ok Rattle.rules.specs.Schemas.string_ok Rattle.rules.specs.Schemas.list_ok Rattle.rules.specs.Schemas.array_ok Rattle.rules.specs.Schemas.bases_ok Rattle.rules.specs.Schemas.object_pairs_ok Rattle.rules.specs.Schemas.object_words_ok Rattle.rules.specs.Schemas.object_ok Rattle.rules.specs.Schemas.ref_ok Rattle.rules.specs.Schemas.schema_rule Rattle.rules.specs.Schemas.schema_ok Rattle.tables.specs.Check.whole_size Rattle.tables.specs.Check.used_size Rattle.tables.specs.Check.size_or Rattle.tables.specs.Check.texts_size Rattle.tables.specs.Check.sizes_fault Rattle.tables.specs.Check.record_count Rattle.tables.specs.Check.record_ok Rattle.tables.specs.Check.first_bad Rattle.tables.specs.Check.records_from Rattle.tables.specs.Check.records_fault Rattle.tables.specs.Check.lent_fault Rattle.tables.specs.Check.tables_fault Rattle.error.specs.Answers.answer_of Rattle.error.specs.Answers.refusal_of Rattle.error.specs.Paths.path_words Rattle.error.specs.Paths.instance_buffer Rattle.error.specs.Paths.schema_buffer Rattle.validator.specs.Nodes.entry_of Rattle.validator.specs.Nodes.entries_from Rattle.validator.specs.Validate.visit_of Rattle.validator.specs.Validate.validate_of Rattle.validator.specs.Visit.find_pair Rattle.validator.specs.Visit.all_over Rattle.validator.specs.Visit.any_over Rattle.validator.specs.Visit.items_over Rattle.validator.specs.Visit.required_over Rattle.validator.specs.Visit.entries_over Rattle.validator.specs.Visit.object_at Rattle.validator.specs.Visit.array_at Rattle.validator.specs.Visit.visit_body Rattle.validator.specs.Visit.visit_at lib.Ieee.span lib.Ieee.climb lib.Ieee.size lib.Ieee.odd lib.Ieee.units lib.Ieee.round lib.Ieee.rem lib.Ieee.lt lib.Ieee.eq lib.Ieee.le lib.Ieee.of_int lib.Ieee.of_fields lib.Ieee.of_bits lib.IntN.one lib.IntN.pow lib.Count.ones_in lib.Count.ones lib.Count.count_leading_zeros lib.Count.count_trailing_zeros Rattle.json_equality.specs.Json.equal_json
worked_examples = refl
