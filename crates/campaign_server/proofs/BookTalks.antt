-- What a connection to a book comes to, alone and in a hall.
pub mod HallPlaces
pub mod HallTalks
pub mod SessionChains
