mod Chosen
mod Folders
mod KeptLists
