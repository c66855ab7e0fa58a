mod Breaking
mod Heads
mod Bytes
mod Conferring
