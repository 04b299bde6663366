-- A field as the loop that writes its numbers meets it.
pub mod FieldWriting
