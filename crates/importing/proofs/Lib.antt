-- ---- the passes as their loops meet them

-- The lines of a text, one by one.
mod LinesWalked
-- What a line types, by its tag.
mod LineKinds
-- The atom count.
mod SurveyLaws
-- The abducibles.
mod DeclareLaws
-- The abducibles, listed.
mod RisingLaws
-- The checks of the rules and of the integrity rules.
mod RunLaws
-- The passes that write, and the file, field after field.
mod RunWriting
-- What the passes come to.
mod ImportLaws
-- ---- for callers
-- What is told fixes the answer.
pub mod ImportAnswers
