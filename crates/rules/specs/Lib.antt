-- Document 01 as definitions, in its order.
pub mod Words
pub mod State
pub mod Plan
pub mod Uses
pub mod Messages
pub mod Nonce
pub mod Mac
pub mod CheckMac
pub mod GenDig
pub mod DeriveKey
pub mod Address
pub mod Read
pub mod Write
pub mod Upkeep
pub mod Commands
pub mod Events
