-- The programs of the reference calls, and the bytes that are given for them.
use Rattle.std.specs.Prelude.{List, [], ◌∷◌, ℕ}
use Rattle.papers.specs.Program.{Rule, Program, Query}
use Rattle.papers.specs.Reading.{Papers}

abbrev pub rule : ℕ → List ℕ → Rule
rule head body = record { head = head; body = body }

-- "Example 2.1: a, b, c = 0, 1, 2; c :- not b; b :- a; -b; a :- not a."
abbrev pub example21 : Program
example21 = record {
  atoms = 3;
  abducibles = [];
  rules = rule 4 (5 ∷ []) ∷ rule 2 (0 ∷ []) ∷ rule 3 [] ∷ rule 0 (1 ∷ []) ∷ [];
  integrity = [];
}

-- Its dual: a by fold 3, -a, b by fold 1, c by fold 0, -c, falsum. The fact -b has no entry.
abbrev pub example21_dual : List ℕ
example21_dual =
    0x08 ∷ 0 ∷ 4 ∷ 0 ∷ 0 ∷ 0 ∷ 3 ∷
    0x09 ∷ 0 ∷ 4 ∷ 0 ∷ 3 ∷ 0 ∷ 0 ∷
    0x08 ∷ 0 ∷ 2 ∷ 0 ∷ 1 ∷
    0x08 ∷ 0 ∷ 4 ∷ 0 ∷ 2 ∷ 0 ∷ 1 ∷
    0x09 ∷ 0 ∷ 4 ∷ 0 ∷ 1 ∷ 0 ∷ 1 ∷
    0x08 ∷ 0 ∷ 4 ∷ 0 ∷ 4 ∷ 0 ∷ 0 ∷
    0x09 ∷ 0 ∷ 4 ∷ 0 ∷ 0 ∷ 0 ∷ 4 ∷
    0x08 ∷ 0 ∷ 2 ∷ 0 ∷ 5 ∷
    0x08 ∷ 0 ∷ 2 ∷ 0 ∷ 6 ∷
    0x7F ∷ 0 ∷ 0 ∷ []

-- "Example 3.1" of document 000: s, p, q, r = 0 to 3; s :- not p, not q, not r; p :- not s, not r, q; q :- not p, r; r :- not q, p.
abbrev pub example31 : Program
example31 = record {
  atoms = 4;
  abducibles = [];
  rules = rule 0 (5 ∷ 9 ∷ 13 ∷ []) ∷ rule 2 (1 ∷ 13 ∷ 8 ∷ []) ∷ rule 4 (5 ∷ 12 ∷ []) ∷ rule 6 (9 ∷ 4 ∷ []) ∷ [];
  integrity = [];
}

-- "d :- a; -d; falsum :- d, -d; query d": a, d = 0, 1, and a is abducible.
abbrev pub contradiction : Program
contradiction = record {
  atoms = 2;
  abducibles = 0 ∷ [];
  rules = rule 2 (0 ∷ []) ∷ rule 3 [] ∷ [];
  integrity = (4 ∷ 6 ∷ []) ∷ [];
}

-- "Without the integrity rule."
abbrev pub contradiction_allowed : Program
contradiction_allowed = record {
  atoms = 2;
  abducibles = 0 ∷ [];
  rules = rule 2 (0 ∷ []) ∷ rule 3 [] ∷ [];
  integrity = [];
}

abbrev pub query_d : Query
query_d = 4 ∷ []

-- A program with a query.
abbrev pub papers : Program → Query → Papers
papers program query = record { program = program; query = query }

-- That without the integrity rule, with its query.
abbrev pub allowed : Papers
allowed = papers contradiction_allowed query_d

-- "Example 3.2, p*, q* abducible in that order, query q", of document 000: p, q, p*, q*, p_constr, q_constr = 0 to 5; p :- not q*;
-- q :- not p*; p_constr :- p, -p*; q_constr :- q, -q*; falsum :- p_constr; falsum :- q_constr.
abbrev pub example32 : Papers
example32 = papers (record {
  atoms = 6;
  abducibles = 2 ∷ 3 ∷ [];
  rules = rule 0 (13 ∷ []) ∷ rule 2 (9 ∷ []) ∷ rule 8 (0 ∷ 10 ∷ []) ∷ rule 10 (4 ∷ 14 ∷ []) ∷ [];
  integrity = (16 ∷ []) ∷ (20 ∷ []) ∷ [];
}) (4 ∷ [])

-- "The programs of Figure 1 of document 001, each loaded without the others, abducibles a, b in that order": a, b = 0, 1.
-- p0 :- q0; p0 :- a; q0 :- p0; q0 :- b; query not p0.
abbrev pub figure_p0 : Papers
figure_p0 = papers (record {
  atoms = 4;
  abducibles = 0 ∷ 1 ∷ [];
  rules = rule 4 (12 ∷ []) ∷ rule 4 (0 ∷ []) ∷ rule 6 (8 ∷ []) ∷ rule 6 (4 ∷ []) ∷ [];
  integrity = [];
}) (9 ∷ [])

-- p4 :- q4; q4 :- p4; q4 :- not a, not b; query not p4.
abbrev pub figure_p4 : Papers
figure_p4 = papers (record {
  atoms = 4;
  abducibles = 0 ∷ 1 ∷ [];
  rules = rule 4 (12 ∷ []) ∷ rule 6 (8 ∷ []) ∷ rule 6 (1 ∷ 5 ∷ []) ∷ [];
  integrity = [];
}) (9 ∷ [])

-- p8 :- not q8, a; q8 :- not p8; q8 :- b; query q8.
abbrev pub figure_q8 : Papers
figure_q8 = papers (record {
  atoms = 4;
  abducibles = 0 ∷ 1 ∷ [];
  rules = rule 4 (13 ∷ 0 ∷ []) ∷ rule 6 (9 ∷ []) ∷ rule 6 (4 ∷ []) ∷ [];
  integrity = [];
}) (12 ∷ [])

-- a alone: p11 :- not q11, a; q11 :- p11, not a; query not q11.
abbrev pub figure_q11 : Papers
figure_q11 = papers (record {
  atoms = 3;
  abducibles = 0 ∷ [];
  rules = rule 2 (9 ∷ 0 ∷ []) ∷ rule 4 (4 ∷ 1 ∷ []) ∷ [];
  integrity = [];
}) (9 ∷ [])

-- No abducible: p3 :- q3; q3 :- not r3; r3 :- p3; query p3.
abbrev pub figure_p3 : Papers
figure_p3 = papers (record {
  atoms = 3;
  abducibles = [];
  rules = rule 0 (4 ∷ []) ∷ rule 2 (9 ∷ []) ∷ rule 4 (0 ∷ []) ∷ [];
  integrity = [];
}) (0 ∷ [])

-- ---- Card 5: the constant u, FFFF in a body

abbrev pub u : ℕ
u = 0xFFFF

-- p :- u.
abbrev pub unsettled : Program
unsettled = record { atoms = 1; abducibles = []; rules = rule 0 (u ∷ []) ∷ []; integrity = [] }

-- Its dual: p by fold 0, which lists u; -p; falsum.
abbrev pub unsettled_dual : List ℕ
unsettled_dual =
    0x08 ∷ 0 ∷ 4 ∷ 0 ∷ 0 ∷ 0 ∷ 0 ∷
    0x09 ∷ 0 ∷ 4 ∷ 0 ∷ 0 ∷ 0xFF ∷ 0xFF ∷
    0x08 ∷ 0 ∷ 2 ∷ 0 ∷ 1 ∷
    0x08 ∷ 0 ∷ 2 ∷ 0 ∷ 2 ∷
    0x7F ∷ 0 ∷ 0 ∷ []

-- p :- not p.
abbrev pub self_denied : Program
self_denied = record { atoms = 1; abducibles = []; rules = rule 0 (1 ∷ []) ∷ []; integrity = [] }

-- p :- u, q; nothing gives q.
abbrev pub besides_false : Program
besides_false = record { atoms = 2; abducibles = []; rules = rule 0 (u ∷ 4 ∷ []) ∷ []; integrity = [] }

-- falsum :- u; p is abducible, and nothing is asked.
abbrev pub denied_by_u : Papers
denied_by_u = papers (record { atoms = 1; abducibles = 0 ∷ []; rules = []; integrity = (u ∷ []) ∷ [] }) []

-- One atom and one rule.
abbrev pub one_rule : ℕ → List ℕ → Program
one_rule head body = record { atoms = 1; abducibles = []; rules = rule head body ∷ []; integrity = [] }
