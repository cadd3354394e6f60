pub mod Laws
mod Linked
mod Links
mod Raster
