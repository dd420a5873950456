-- Documents, runs and requests by their numbers.
pub mod NumberedGrades
pub mod NumberedHolders
pub mod NumberedRequests
pub mod Numbers
pub mod Submissions
