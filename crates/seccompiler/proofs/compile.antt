pub mod TextPrograms
