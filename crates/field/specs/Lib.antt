pub mod Field
pub mod Says
pub mod RoundTrip
