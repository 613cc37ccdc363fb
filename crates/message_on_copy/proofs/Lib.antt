pub mod OnCopy
