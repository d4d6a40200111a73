pub mod ByteByByte
pub mod ItemFiles
pub mod KeyInputs
pub mod KeyText
pub mod LineRules
pub mod NamedKeys
pub mod PutFiles
pub mod Takers
