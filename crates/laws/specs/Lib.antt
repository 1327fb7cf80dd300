pub mod Pick
pub mod Bools
pub mod Tests
pub mod Whole
pub mod Over
pub mod Decimal
pub mod DecimalLaws
