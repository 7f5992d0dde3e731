-- Laws for what is moved and put within a column: `Lists` on whole lists, `Parts` on a part that is lent on.
pub mod Lists
pub mod Parts
