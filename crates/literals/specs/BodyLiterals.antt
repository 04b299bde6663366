-- Document 02, Card 5: "In bodies of 04 and 05 the literal FFFF now means undefined, the constant u of document 000."
-- n is the number of atoms, or of objective literals.
use Rattle.std.specs.Prelude.{ℕ, ◌<◌, Bool, true, cond, eqb}
use Rattle.literals.specs.declared.bodies.BodyLiteral.{BodyLiteral}
use Rattle.literals.specs.declared.bodies.BodyLiteral.TheVariants.{Is, Undefined}
use Rattle.literals.specs.Numbering.{literal_listed, default_conjugate, objective_number}

-- "Reading a body literal yields a number or this constant."
unfoldable pub body_literal : ℕ → BodyLiteral
body_literal number = cond (eqb number 0xFFFF) Undefined (Is (record { 0 = number }))

-- and back
unfoldable pub body_number : BodyLiteral → ℕ
body_number (Is l) = l.0
body_number Undefined = 0xFFFF

-- A body can have the literals below 4n, and u.
unfoldable pub body_listed : ℕ → BodyLiteral → Bool
body_listed n (Is l) = literal_listed n l.0
body_listed n Undefined = true

-- "Its default conjugate is itself."
unfoldable pub body_conjugate : BodyLiteral → BodyLiteral
body_conjugate (Is l) = Is (record { 0 = default_conjugate l.0 })
body_conjugate Undefined = Undefined

-- The default conjugate, by the numbers that stand in a body.
unfoldable pub conjugate_number : ℕ → ℕ
conjugate_number number = body_number (body_conjugate (body_literal number))

-- Its objective literal is one of the first n. u is of none.
unfoldable pub Below : ℕ → BodyLiteral → Type 0
Below n (Is l) = objective_number l.0 < n
Below n Undefined = Unit {0}
