pub mod ByIds
