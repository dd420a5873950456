-- What a server, its workers and their records leave at the end.
pub mod WorkerPlaces
pub mod HandedRecords
pub mod DoorLeavings
pub mod JoinedWorkers
