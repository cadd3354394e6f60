pub mod Laws
mod Apart
mod Laid
mod Turned
mod Chained
mod Ranked
mod Ways
mod Taken
mod Keeping
