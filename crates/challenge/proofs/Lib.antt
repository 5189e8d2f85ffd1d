mod Lists
mod Visited
mod Visiting
mod Claiming
mod Comparing
mod RowVisits
mod RowsVisited
mod Answering
