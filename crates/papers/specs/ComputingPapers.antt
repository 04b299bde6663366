-- What has to unfold for a paper to be computed: a theorem says `unfolding encoding` or `unfolding reading`.
use Rattle.literals.specs.BodyLiterals.{body_literal, body_listed}
use Rattle.papers.specs.Field.{numbers, size_of, content_of, fewest, most, length_allowed, field_fault, read_field}
use Rattle.papers.specs.Content.{edition_fault, atoms_fault, abducibles_fault, literal_allowed, literals_fault, is_among, rule_fault, body_fault}
use Rattle.papers.specs.Reading.{read_edition, read_atoms, read_abducibles, read_run, read_end, rule_of, read_rules, read_file, read_sheet, read_papers}
use Rattle.papers.specs.Encoding.{encode_numbers, encode_field, encode_run, encode_file, encode_sheet}

-- A file and its fields, as they are written,
unfoldable pub encoding : Unit {0}
unfolding encode_numbers encode_field encode_run encode_file encode_sheet
encoding = tt

-- one field as it is read,
unfoldable field : Unit {0}
unfolding numbers size_of content_of fewest most length_allowed field_fault read_field
field = tt

-- the tests of its content,
unfoldable content : Unit {0}
unfolding body_literal body_listed edition_fault atoms_fault abducibles_fault literal_allowed literals_fault is_among rule_fault body_fault
content = tt

-- and the readers.
unfoldable pub reading : Unit {0}
unfolding field content read_edition read_atoms read_abducibles read_run read_end rule_of read_rules read_file read_sheet read_papers
reading = tt
