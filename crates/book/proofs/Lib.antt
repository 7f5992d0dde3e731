-- Laws: `Stood` says where the row of an identity that stands is.
pub mod Stood
