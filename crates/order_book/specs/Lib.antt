pub mod RoomyBook
pub mod Inside
