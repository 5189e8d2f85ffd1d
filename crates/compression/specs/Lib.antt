pub mod Tagged
pub mod TallyOctets
