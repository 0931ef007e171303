pub mod Decoding
pub mod Encoding
pub mod Encoded
pub mod Forms
pub mod Groups
pub mod Word
