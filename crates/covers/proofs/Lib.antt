mod Fails
mod FirstNames
mod Firsts
mod PictureRanges
