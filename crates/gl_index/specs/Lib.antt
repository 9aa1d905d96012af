pub mod Lists
pub mod KeyedLists
