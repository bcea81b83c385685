pub mod Text
pub mod Decimal
pub mod Printed
pub mod Unique
