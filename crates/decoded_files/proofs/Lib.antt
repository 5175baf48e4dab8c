pub mod AnswerBytes
pub mod FolderFiles
pub mod OpenedFiles
pub mod PieceBytes
