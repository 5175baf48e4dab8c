mod Place
mod Rising
mod Sets
mod Steps
