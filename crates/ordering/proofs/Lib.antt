-- Arrays that are written from their start on, and visits in an order that was tested.
pub mod OrderLaws
