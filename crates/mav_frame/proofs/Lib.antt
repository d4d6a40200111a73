pub mod Buffers
pub mod EncodedFound
pub mod FoundEncoded
pub mod MoreBytes
pub mod Reasons
pub mod OneParse
pub mod LongerParse
pub mod EventsFound
pub mod ParsedByFunction
mod SignedBytes
mod Versions
pub mod RawFrames
mod NewSignatures
mod SealedBytes
